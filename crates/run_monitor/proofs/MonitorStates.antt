-- The bits of a monitor represent the rounds that it has seen, and its result is the value of its formula.
use Rattle.std.proofs.Common.{◌≡◌, ◌≢◌, ◌∙◌, ℕ, zero, suc, ◌-◌, ◌<◌, nat_eq, Bool, true, false, if◌then◌else◌, not}
use Rattle.std.proofs.Common.{◌&&◌, ◌||◌, List, [], ◌∷◌, ◌++◌, length, map, Some, None, slice_get, refl, sym, ap, ap₂}
use Rattle.std.proofs.Common.{arith, length-append}
use Rattle.std.proofs.lemmas.Bool.{eqb-true, eq-eqb, ne_eqb, false≢true}
use Rattle.std.proofs.lemmas.List.{length-map, ext_get_or, get_or-map}
use Rattle.std.proofs.lemmas.Option.{slice_get_within, slice_get-get_or, get_or_from_slice_get}
use Rattle.pals_base.specs.declared.frames.Frame.{Frame}
use Rattle.pals_runs.specs.Formula.{Formula, Var, Halted}
use Rattle.run_monitor.specs.FormulaSemantics.{frame_in, variable_in, compares, holds}
use Rattle.run_monitor.specs.proof.IncrementalSemantics.{bit_of, next_value, bits_after}
use Rattle.run_monitor.proofs.FormulaLaws.{one_bit_each}
use Rattle.run_monitor.specs.declared.flat_form.FlatForm.{FlatForm}
use Rattle.run_monitor.specs.declared.flat_form.FlatForm.TheVariants as flat
use Rattle.pals_runs.specs.proof.ComponentsInFormulas.{reads, names}
use Rattle.run_monitor.specs.proof.FlatForms.{formula_at, built, forms_of, HasParts, IsFlat, Adds}
use Rattle.run_monitor.specs.proof.FormBits.{bit_at, seen_bit, row_bit, next_bit, AreSeen, AreOfRow, AreNext}
use Rattle.run_monitor.specs.proof.MonitorStates.{MonitorState, whole, said, HasKept, StandsFor, HasSeen, IsNew, Sees}
use Rattle.run_monitor.specs.proof.MonitorStates.{SeesAll, AdvancesBy, Advances, GoesOn, IsReady}
use Rattle.run_monitor.proofs.FlatForms.{length-forms, form-is}

abbrev pub state : List FlatForm → Bool → List Bool → List Bool → MonitorState
state es begun kept seen = record { forms = forms_of es; begun = begun; kept = kept; seen = seen }

-- ---- the form and the formula at a place
entry-at : (es : List FlatForm) (k : ℕ) → k < length es → (e : FlatForm) × (slice_get es k ≡ Some e)
entry-at [] k within = absurd (omega arith)
entry-at (e ∷ es) zero within = (e, refl)
entry-at (e ∷ es) (suc k) within = entry-at es k (omega arith)

formula-got : (es : List FlatForm) (k : ℕ) (e : FlatForm) → IsFlat es → slice_get es k ≡ Some e
    → slice_get (forms_of es) k ≡ Some (built (forms_of es) e)
formula-got es k e order is =
    slice_get-get_or (forms_of es) k (Halted 0)
    (let within = slice_get_within es k e is in omega (arith, within, length-forms es))
    ∙ ap Some (form-is es k e order is)

abbrev FormAt : List FlatForm → ℕ → Formula → Type 0
FormAt es k f = (e : FlatForm) × (slice_get es k ≡ Some e) × (f ≡ built (forms_of es) e)

form-at : (es : List FlatForm) (k : ℕ) (f : Formula) → IsFlat es → slice_get (forms_of es) k ≡ Some f → FormAt es k f
form-at es k f order is =
    let within : k < length es =
    (let inside = slice_get_within (forms_of es) k f is in omega (arith, inside, length-forms es)) in
    let entry = entry-at es k within in
    (entry.0, entry.1, sym (get_or_from_slice_get (forms_of es) k f (Halted 0) is) ∙ form-is es k entry.0 order entry.1)

-- ---- the seen bits
seen-here : (fs : List Formula) (e : FlatForm) (row : List Frame) (node : ℕ) (frame : Frame) (before : Bool)
    → frame_in row node ≡ frame
    → reads (built fs e) node ≡ true
    → seen_bit e node frame before ≡ next_value None row (built fs e)
seen-here fs (flat.Var of variable op number) row node frame before is read =
    ap (λ b. if b then compares op (variable_in frame variable) number else before) read
    ∙ ap (λ (x : Frame). compares op (variable_in x variable) number)
    (sym is ∙ ap (frame_in row) (sym (eqb-true of.0 node read)))
seen-here fs (flat.Halted of) row node frame before is read =
    ap (λ b. if b then next_value None (frame ∷ []) (Halted 0) else before) read
    ∙ ap (λ (x : Frame). next_value None (x ∷ []) (Halted 0))
    (sym is ∙ ap (frame_in row) (sym (eqb-true of.0 node read)))
seen-here fs (flat.Not f) row node frame before is read = absurd (false≢true read)
seen-here fs (flat.And f g) row node frame before is read = absurd (false≢true read)
seen-here fs (flat.Or f g) row node frame before is read = absurd (false≢true read)
seen-here fs (flat.Previous f) row node frame before is read = absurd (false≢true read)
seen-here fs (flat.Once f) row node frame before is read = absurd (false≢true read)
seen-here fs (flat.Historically f) row node frame before is read = absurd (false≢true read)
seen-here fs (flat.Since f g) row node frame before is read = absurd (false≢true read)

apart : (of node other : ℕ) → other ≢ node → nat_eq of other ≡ true → nat_eq of node ≡ false
apart of node other differ read = ne_eqb of node (λ same. differ (sym (eqb-true of other read) ∙ same))

seen-other : (fs : List Formula) (e : FlatForm) (node other : ℕ) (frame : Frame) (before : Bool) → other ≢ node
    → reads (built fs e) other ≡ true
    → seen_bit e node frame before ≡ before
seen-other fs (flat.Var of variable op number) node other frame before differ read =
    ap (λ b. if b then compares op (variable_in frame variable) number else before) (apart of.0 node other differ read)
seen-other fs (flat.Halted of) node other frame before differ read =
    ap (λ b. if b then next_value None (frame ∷ []) (Halted 0) else before) (apart of.0 node other differ read)
seen-other fs (flat.Not f) node other frame before differ read = refl
seen-other fs (flat.And f g) node other frame before differ read = refl
seen-other fs (flat.Or f g) node other frame before differ read = refl
seen-other fs (flat.Previous f) node other frame before differ read = refl
seen-other fs (flat.Once f) node other frame before differ read = refl
seen-other fs (flat.Historically f) node other frame before differ read = refl
seen-other fs (flat.Since f g) node other frame before differ read = refl

pub sees : (es : List FlatForm) (begun : Bool) (kept seen new : List Bool) (node : ℕ) (frame : Frame) → IsFlat es
    → AreSeen es node frame seen new
    → Sees (state es begun kept seen) (state es begun kept new) node frame
sees es begun kept seen new node frame order each = record {
  forms = refl;
  stands = λ h stands. record { kept = stands.kept };
  here = λ row is. record {
    each = λ k f is_f read.
        (let at = form-at es k f order is_f in
        let form : FlatForm = at.0 in
        each k form at.1
        ∙ seen-here (forms_of es) form row node frame (bit_at seen k) is
        (ap (λ (x : Formula). reads x node) (sym at.2) ∙ read)
        ∙ ap (next_value None row) (sym at.2));
  };
  others = λ row other differ before. record {
    each = λ k f is_f read.
        (let at = form-at es k f order is_f in
        let form : FlatForm = at.0 in
        each k form at.1
        ∙ seen-other (forms_of es) form node other frame (bit_at seen k) differ
        (ap (λ (x : Formula). reads x other) (sym at.2) ∙ read)
        ∙ before.each k f is_f read);
  };
}

-- the frames of all components
seen-in_row : (fs : List Formula) (e : FlatForm) (row : List Frame) (node : ℕ) (before : Bool)
    → reads (built fs e) node ≡ true
    → row_bit e row before ≡ next_value None row (built fs e)
seen-in_row fs (flat.Var of variable op number) row node before read = refl
seen-in_row fs (flat.Halted of) row node before read = refl
seen-in_row fs (flat.Not f) row node before read = absurd (false≢true read)
seen-in_row fs (flat.And f g) row node before read = absurd (false≢true read)
seen-in_row fs (flat.Or f g) row node before read = absurd (false≢true read)
seen-in_row fs (flat.Previous f) row node before read = absurd (false≢true read)
seen-in_row fs (flat.Once f) row node before read = absurd (false≢true read)
seen-in_row fs (flat.Historically f) row node before read = absurd (false≢true read)
seen-in_row fs (flat.Since f g) row node before read = absurd (false≢true read)

pub sees_all : (es : List FlatForm) (begun : Bool) (kept seen new : List Bool) (row : List Frame) → IsFlat es
    → AreOfRow es row seen new
    → SeesAll (state es begun kept seen) (state es begun kept new) row
sees_all es begun kept seen new row order each = record {
  forms = refl;
  stands = λ h stands. record { kept = stands.kept };
  each = λ node. record {
    each = λ k f is_f read.
        (let at = form-at es k f order is_f in
        let form : FlatForm = at.0 in
        each k form at.1
        ∙ seen-in_row (forms_of es) form row node (bit_at seen k) (ap (λ (x : Formula). reads x node) (sym at.2) ∙ read)
        ∙ ap (next_value None row) (sym at.2));
  };
}

-- ---- a new monitor
pub is_new : (es : List FlatForm) (at : ℕ) (f : Formula) (kept seen : List Bool) → Adds [] es at f
    → IsNew f (state es false kept seen)
is_new es at f kept seen adds = record {
  formula =
      (let last : length (forms_of es) - 1 ≡ at = (let size = adds.last in omega (arith, size, length-forms es)) in
      ap (formula_at (forms_of es)) last ∙ adds.is);
  stands = record { kept = refl };
}

pub is_ready : (es : List FlatForm) (at : ℕ) (f : Formula) (kept seen : List Bool) → Adds [] es at f
    → length kept ≡ length es
    → length seen ≡ length es → IsReady es kept seen
is_ready es at f kept seen adds kept_size seen_size =
    let last : length es - 1 ≡ at = (let size = adds.last in omega (arith, size)) in
    record {
      some = (let size = adds.last in omega (arith, size));
      order = adds.order;
      kept_size = kept_size;
      seen_size = seen_size;
      named = λ k node within read.
          ap (λ (x : Formula). names x node) (ap (formula_at (forms_of es)) last ∙ adds.is)
          ∙ adds.named k node (omega arith) within read;
    }

-- ---- the stored bits

kept-before : (fs : List Formula) (begun : Bool) (kept : List Bool) (h : List (List Frame)) (k : ℕ)
    → HasKept begun fs kept h → k < length fs
    → (begun && bit_at kept k) ≡ bit_of false (bits_after h) (formula_at fs k)
kept-before fs false kept h k is within = ap (λ x. bit_of false (bits_after x) (formula_at fs k)) (sym is)
kept-before fs true kept [] k is within = absurd is
kept-before fs true kept (row ∷ h) k is within =
    ap (λ (bs : List Bool). bit_at bs k) is
    ∙ get_or-map (λ f. holds f (row ∷ h) (length h)) fs k (Halted 0) false within

kept-always : (fs : List Formula) (begun : Bool) (kept : List Bool) (h : List (List Frame)) (k : ℕ)
    → HasKept begun fs kept h → k < length fs
    → (not begun || bit_at kept k) ≡ bit_of true (bits_after h) (formula_at fs k)
kept-always fs false kept h k is within = ap (λ x. bit_of true (bits_after x) (formula_at fs k)) (sym is)
kept-always fs true kept [] k is within = absurd is
kept-always fs true kept (row ∷ h) k is within =
    ap (λ (bs : List Bool). bit_at bs k) is
    ∙ get_or-map (λ f. holds f (row ∷ h) (length h)) fs k (Halted 0) false within

-- ---- a further round
module _ (es : List FlatForm) (begun : Bool) (kept seen new : List Bool) (order : IsFlat es)
    (each : AreNext es begun kept seen new)
    (h : List (List Frame)) (row : List Frame) (stands : StandsFor (state es begun kept seen) h)
    (has_seen : (node : ℕ) → HasSeen (state es begun kept seen) row node) where
  abbrev fs : List Formula
  fs = forms_of es

  abbrev SaysBelow : ℕ → Type 0
  SaysBelow n = (p : ℕ) → p < n → p < length es → bit_at new p ≡ next_value (bits_after h) row (formula_at fs p)

  kept_false : (k : ℕ) → k < length es → (begun && bit_at kept k) ≡ bit_of false (bits_after h) (formula_at fs k)
  kept_false k within = kept-before fs begun kept h k stands.kept (omega (arith, within, length-forms es))

  kept_true : (k : ℕ) → k < length es → (not begun || bit_at kept k) ≡ bit_of true (bits_after h) (formula_at fs k)
  kept_true k within = kept-always fs begun kept h k stands.kept (omega (arith, within, length-forms es))

  says : (k : ℕ) (e : FlatForm) → slice_get es k ≡ Some e → k < length es → HasParts k e → SaysBelow k
      → next_bit e k begun kept new (bit_at seen k) ≡ next_value (bits_after h) row (built fs e)
  says k (flat.Var node variable op number) is within parts below =
      let seen_it = has_seen node.0 in
      seen_it.each k (Var node.0 variable op number) (formula-got es k (flat.Var node variable op number) order is)
      (eq-eqb node.0 node.0 refl)
  says k (flat.Halted node) is within parts below =
      let seen_it = has_seen node.0 in
      seen_it.each k (Halted node.0) (formula-got es k (flat.Halted node) order is) (eq-eqb node.0 node.0 refl)
  says k (flat.Not f) is within parts below = ap not (below f parts (omega (arith, parts, within)))
  says k (flat.And f g) is within parts below =
      ap₂ (λ a b. a && b) (below f parts.0 (omega (arith, parts.0, within)))
      (below g parts.1 (omega (arith, parts.1, within)))
  says k (flat.Or f g) is within parts below =
      ap₂ (λ a b. a || b) (below f parts.0 (omega (arith, parts.0, within)))
      (below g parts.1 (omega (arith, parts.1, within)))
  says k (flat.Previous f) is within parts below = kept_false f (omega (arith, parts, within))
  says k (flat.Once f) is within parts below =
      ap₂ (λ a b. a || b) (kept_false k within ∙ ap (bit_of false (bits_after h)) (form-is es k (flat.Once f) order is))
      (below f parts (omega (arith, parts, within)))
  says k (flat.Historically f) is within parts below =
      ap₂ (λ a b. a && b) (kept_true k within
      ∙ ap (bit_of true (bits_after h)) (form-is es k (flat.Historically f) order is))
      (below f parts (omega (arith, parts, within)))
  says k (flat.Since f g) is within parts below =
      ap₂ (λ a b. a || b)
      (ap₂ (λ a b. a && b) (kept_false k within
      ∙ ap (bit_of false (bits_after h)) (form-is es k (flat.Since f g) order is))
      (below f parts.0 (omega (arith, parts.0, within))))
      (below g parts.1 (omega (arith, parts.1, within)))

  says-below : (n : ℕ) → SaysBelow n
  says-below zero p less within = absurd (omega arith)
  says-below (suc n) p less within =
      let entry = entry-at es p within in
      let e : FlatForm = entry.0 in
      each p e entry.1
      ∙ says p e entry.1 within (order.parts p e entry.1)
      (λ q under inside. says-below n q (omega (arith, under, less)) inside)
      ∙ ap (next_value (bits_after h) row) (sym (form-is es p e order entry.1))

  pub says-there : (k : ℕ) → k < length es → bit_at new k ≡ holds (formula_at fs k) (h ++ row ∷ []) (length h)
  says-there k within = says-below (suc k) k (omega arith) within ∙ one_bit_each (formula_at fs k) h row

  pub all-kept : length new ≡ length es → new ≡ map (λ f. holds f (h ++ row ∷ []) (length h)) fs
  all-kept size =
      let there : Formula → Bool = λ f. holds f (h ++ row ∷ []) (length h) in
      let many : length (map there fs) ≡ length fs = length-map fs there in
      ext_get_or false new (map there fs) (size ∙ sym (length-forms es) ∙ sym many)
      (λ k within.
      let inside : k < length es = omega (arith, within, size) in
      says-there k inside ∙ sym (get_or-map there fs k (Halted 0) false (omega (arith, inside, length-forms es))))

-- the last round of a history with one more
kept-one_more : (fs : List Formula) (new : List Bool) (h : List (List Frame)) (row : List Frame)
    → new ≡ map (λ f. holds f (h ++ row ∷ []) (length h)) fs
    → HasKept true fs new (h ++ row ∷ [])
kept-one_more fs new [] row is = is
kept-one_more fs new (first ∷ h) row is =
    let size : suc (length h) ≡ length (h ++ row ∷ []) = (let sum = length-append h (row ∷ []) in omega (arith, sum)) in
    is ∙ ap (λ n. map (λ f. holds f (first ∷ (h ++ row ∷ [])) n) fs) size

-- at a component that the formula does not name no form reads anything
seen_by : (es : List FlatForm) (begun : Bool) (kept seen : List Bool) (row : List Frame) (node : ℕ) (b : Bool)
    → IsReady es kept seen
    → names (whole (state es begun kept seen)) node ≡ b
    → (names (whole (state es begun kept seen)) node ≡ true → HasSeen (state es begun kept seen) row node)
    → HasSeen (state es begun kept seen) row node
seen_by es begun kept seen row node true ready is has = has is
seen_by es begun kept seen row node false ready is has = record {
  each = λ k f is_f read.
      (let inside = slice_get_within (forms_of es) k f is_f in
      let within : k < length es = omega (arith, inside, length-forms es) in
      let here = get_or_from_slice_get (forms_of es) k f (Halted 0) is_f in
      let last : length (forms_of es) - 1 ≡ length es - 1 = omega (arith, length-forms es) in
      let named = ready.named k node within (ap (λ (x : Formula). reads x node) here ∙ read) in
      absurd (false≢true (sym is ∙ ap (λ n. names (formula_at (forms_of es) n) node) last ∙ named)));
}

pub advances : (es : List FlatForm) (begun : Bool) (kept seen new rest : List Bool) (answer : Bool)
    → IsReady es kept seen
    → length new ≡ length seen → AreNext es begun kept seen new → answer ≡ said (state es true new rest)
    → Advances (state es begun kept seen) (state es true new rest) answer
advances es begun kept seen new rest answer ready size each is = record {
  forms = refl;
  said_is = is;
  further_on = λ h row stands has_named. (
      let has_seen : (node : ℕ) → HasSeen (state es begun kept seen) row node
      =
      λ node. seen_by es begun kept seen row node (names (whole (state es begun kept seen)) node) ready refl
      (has_named node) in
      let many : length new ≡ length es = (let room = ready.seen_size in omega (arith, size, room)) in
      let inside : length (forms_of es) - 1 < length es =
      (let some = ready.some in omega (arith, length-forms es, some)) in
      record {
        stands =
            record {
              kept = kept-one_more (forms_of es) new h row
                  (all-kept es begun kept seen new ready.order each h row stands has_seen many);
            };
        answer_is =
            is ∙ says-there es begun kept seen new ready.order each h row stands has_seen
            (length (forms_of es) - 1) inside;
      });
}

-- ---- both calls
abbrev last_of : List Formula → Formula
last_of fs = formula_at fs (length fs - 1)

pub goes_on : (old mid new : MonitorState) (answer : Bool) (row : List Frame) → SeesAll old mid row
    → Advances mid new answer → GoesOn old new row
goes_on old mid new answer row sees advances = record {
  formula = ap last_of (advances.forms ∙ sees.forms);
  stands = λ h stands. (let on = step h stands in on.stands);
  says = λ h stands. (let on = step h stands in
      sym advances.said_is ∙ on.answer_is
      ∙ ap (λ (fs : List Formula). holds (last_of fs) (h ++ row ∷ []) (length h)) sees.forms);
}
  where
    step : (h : List (List Frame)) → StandsFor old h → AdvancesBy mid new answer h row
    step h stands = advances.further_on h row (sees.stands h stands) (λ node named. sees.each node)
