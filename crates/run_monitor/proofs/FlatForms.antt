-- Lists of subformulas in which each follows its parts, as one more is added.
use Rattle.std.proofs.Common.{◌≡◌, ◌∙◌, ◌⊎◌, inl, inr, ℕ, zero, suc, ◌+◌, ◌<◌, true, List, [], ◌∷◌, ◌++◌, length, Some}
use Rattle.std.proofs.Common.{slice_get, refl, sym, ap, ap₂, subst, arith, length-append, append_assoc}
use Rattle.std.specs.Prelude.{Result, IfOk}
use Rattle.std.proofs.lemmas.Bool.{cases_lt, false≢true}
use Rattle.std.proofs.lemmas.List.{get_or_append_left}
use Rattle.std.proofs.Math.Seq.{get_or-append_seam}
use Rattle.std.proofs.lemmas.Result.{IfOk-weaker}
use Rattle.pals_runs.specs.Formula.{Formula, Var, Not, And, Or, Previous, Once, Historically, Since, Halted}
use Rattle.run_monitor.specs.declared.flat_form.FlatForm.{FlatForm}
use Rattle.run_monitor.specs.declared.flat_form.FlatForm.TheVariants as flat
use Rattle.pals_runs.specs.proof.ComponentsInFormulas.{reads, names}
use Rattle.run_monitor.specs.proof.FlatForms.{formula_at, built, formulas_behind, forms_of, HasParts, IsFlat, Adds}

-- ---- the formulas of forms
behind-append : (fs : List Formula) (xs ys : List FlatForm)
    → formulas_behind fs (xs ++ ys) ≡ formulas_behind (formulas_behind fs xs) ys
behind-append fs [] ys = refl
behind-append fs (x ∷ xs) ys = behind-append (fs ++ built fs x ∷ []) xs ys

pub forms-append : (xs ys : List FlatForm) → forms_of (xs ++ ys) ≡ formulas_behind (forms_of xs) ys
unfolding forms_of
forms-append xs ys = behind-append [] xs ys

length-one_more : (fs : List Formula) (f : Formula) → length (fs ++ f ∷ []) ≡ suc (length fs)
length-one_more fs f = length-append fs (f ∷ []) ∙ omega arith

length-behind : (fs : List Formula) (es : List FlatForm) → length (formulas_behind fs es) ≡ length fs + length es
length-behind fs [] = omega arith
length-behind fs (e ∷ es) = let rest = length-behind (fs ++ built fs e ∷ []) es in
    omega (arith, rest, length-one_more fs (built fs e))

pub length-forms : (es : List FlatForm) → length (forms_of es) ≡ length es
unfolding forms_of
length-forms es = length-behind [] es ∙ omega arith

behind-stays : (fs : List Formula) (es : List FlatForm) (k : ℕ) → k < length fs
    → formula_at (formulas_behind fs es) k ≡ formula_at fs k
behind-stays fs [] k within = refl
behind-stays fs (e ∷ es) k within =
    behind-stays (fs ++ built fs e ∷ []) es k (omega (arith, within, length-one_more fs (built fs e)))
    ∙ get_or_append_left fs (built fs e ∷ []) (Halted 0) k within

-- a formula stays the same if subformulas are appended
pub form-stays : (xs ys : List FlatForm) (k : ℕ) → k < length xs
    → formula_at (forms_of (xs ++ ys)) k ≡ formula_at (forms_of xs) k
form-stays xs ys k within =
    ap (λ fs. formula_at fs k) (forms-append xs ys)
    ∙ behind-stays (forms_of xs) ys k (omega (arith, within, length-forms xs))

-- ---- each is over its parts
built-same : (fs gs : List Formula) (n : ℕ) (e : FlatForm) → HasParts n e
    → ((p : ℕ) → p < n → formula_at fs p ≡ formula_at gs p)
    → built fs e ≡ built gs e
built-same fs gs n (flat.Var node variable op number) parts same = refl
built-same fs gs n (flat.Halted node) parts same = refl
built-same fs gs n (flat.Not f) parts same = ap Not (same f parts)
built-same fs gs n (flat.And f g) parts same = ap₂ And (same f parts.0) (same g parts.1)
built-same fs gs n (flat.Or f g) parts same = ap₂ Or (same f parts.0) (same g parts.1)
built-same fs gs n (flat.Previous f) parts same = ap Previous (same f parts)
built-same fs gs n (flat.Once f) parts same = ap Once (same f parts)
built-same fs gs n (flat.Historically f) parts same = ap Historically (same f parts)
built-same fs gs n (flat.Since f g) parts same = ap₂ Since (same f parts.0) (same g parts.1)

built-at : (fs : List Formula) (es : List FlatForm) (k n : ℕ) (e : FlatForm) → n ≡ length fs + k
    → slice_get es k ≡ Some e → HasParts n e
    → formula_at (formulas_behind fs es) n ≡ built (formulas_behind fs es) e
built-at fs [] k n e at is parts = absurd (cc)
built-at fs (x ∷ es) zero n e at is parts =
    let same : x ≡ e = cc in
    let one : List Formula = fs ++ built fs x ∷ [] in
    let here : n ≡ length fs = omega arith in
    let inside : n < length one = omega (arith, here, length-one_more fs (built fs x)) in
    behind-stays one es n inside
    ∙ ap (formula_at one) here
    ∙ get_or-append_seam fs (built fs x) [] (Halted 0)
    ∙ ap (built fs) same
    ∙ built-same fs (formulas_behind one es) n e parts (λ p below.
    sym (behind-stays one es p (omega (arith, below, inside))
    ∙ get_or_append_left fs (built fs x ∷ []) (Halted 0) p (omega (arith, below, here))))
built-at fs (x ∷ es) (suc k) n e at is parts =
    built-at (fs ++ built fs x ∷ []) es k n e (omega (arith, at, length-one_more fs (built fs x))) is parts

pub form-is : (es : List FlatForm) (k : ℕ) (e : FlatForm) → IsFlat es → slice_get es k ≡ Some e
    → formula_at (forms_of es) k ≡ built (forms_of es) e
unfolding forms_of
form-is es k e order is = built-at [] es k k e (omega arith) is (order.parts k e is)

-- ---- one more form
last_or : (es : List FlatForm) (e : FlatForm) (k : ℕ) (x : FlatForm) → slice_get (es ++ e ∷ []) k ≡ Some x
    → (slice_get es k ≡ Some x) ⊎ ((k ≡ length es) × (e ≡ x))
last_or [] e zero x is = inr (refl, cc)
last_or [] e (suc k) x is = absurd (cc)
last_or (y ∷ es) e zero x is = inl is
last_or (y ∷ es) e (suc k) x is =
    elim (last_or es e k x is) [
      | inl before ↦ inl before
      | inr last ↦ inr (ap suc last.0, last.1)
    ]

more_flat : (es : List FlatForm) (e : FlatForm) → IsFlat es → HasParts (length es) e → IsFlat (es ++ e ∷ [])
more_flat es e order parts = record {
  parts = λ k x is. elim (last_or es e k x is) [
    | inl before ↦ order.parts k x before
    | inr last ↦ subst (HasParts k) last.1 (subst (λ n. HasParts n e) (sym last.0) parts)
  ];
}

formula-last : (es : List FlatForm) (e : FlatForm)
    → formula_at (forms_of (es ++ e ∷ [])) (length es) ≡ built (forms_of es) e
formula-last es e =
    ap (λ fs. formula_at fs (length es)) (forms-append es (e ∷ []))
    ∙ ap (formula_at (forms_of es ++ built (forms_of es) e ∷ [])) (sym (length-forms es))
    ∙ get_or-append_seam (forms_of es) (built (forms_of es) e) [] (Halted 0)

reads-names : (f : Formula) (node : ℕ) → reads f node ≡ true → names f node ≡ true
reads-names (Var of variable op number) node read = read
reads-names (Halted of) node read = read
reads-names (Not f) node read = absurd (false≢true read)
reads-names (And f g) node read = absurd (false≢true read)
reads-names (Or f g) node read = absurd (false≢true read)
reads-names (Previous f) node read = absurd (false≢true read)
reads-names (Once f) node read = absurd (false≢true read)
reads-names (Historically f) node read = absurd (false≢true read)
reads-names (Since f g) node read = absurd (false≢true read)

added_one : (old : List FlatForm) (e : FlatForm) → IsFlat old → HasParts (length old) e
    → Adds old (old ++ e ∷ []) (length old) (built (forms_of old) e)
added_one old e order parts = record {
  added = (e ∷ [], refl);
  order = more_flat old e order parts;
  last = length-append old (e ∷ []) ∙ omega arith;
  is = formula-last old e;
  named = λ k node low high read.
      (let size = length-append old (e ∷ []) in
      let at : k ≡ length old = omega (arith, low, high, size) in
      let last = ap (formula_at (forms_of (old ++ e ∷ []))) at ∙ formula-last old e in
      reads-names (built (forms_of old) e) node (sym (ap (λ (x : Formula). reads x node) last) ∙ read));
}

pub adds_one : (old new : List FlatForm) (at : ℕ) (e : FlatForm) → IsFlat old → HasParts (length old) e
    → at ≡ length old → new ≡ old ++ e ∷ []
    → Adds old new at (built (forms_of old) e)
adds_one old new at e order parts place is =
    subst (λ n. Adds old n at (built (forms_of old) e)) (sym is)
    (subst (λ k. Adds old (old ++ e ∷ []) k (built (forms_of old) e)) (sym place) (added_one old e order parts))

-- ---- forms of parts, and then the form over them
both_added : (old mid new : List FlatForm) → (more : List FlatForm) × (mid ≡ old ++ more)
    → (more : List FlatForm) × (new ≡ mid ++ more)
    → (more : List FlatForm) × (new ≡ old ++ more)
both_added old mid new first second =
    (first.0 ++ second.0, second.1 ∙ ap (λ xs. xs ++ second.0) first.1 ∙ append_assoc old first.0 second.0)

pub part_place : (old new : List FlatForm) (at : ℕ) (f : Formula) → Adds old new at f → at < length new
part_place old new at f adds = omega (arith, adds.last)

-- if it was added, it stays after more are appended
pub still : (old mid new : List FlatForm) (at : ℕ) (f : Formula) → Adds old mid at f
    → (more : List FlatForm) × (new ≡ mid ++ more)
    → formula_at (forms_of new) at ≡ f
still old mid new at f adds more =
    ap (λ es. formula_at (forms_of es) at) more.1 ∙ form-stays mid more.0 at (part_place old mid at f adds) ∙ adds.is

pub leaf : {E : Type 0} (r : Result ℕ E) (old new : List FlatForm) (f g : Formula) → f ≡ g
    → IfOk r (λ at. Adds old new at f)
    → IfOk r (λ at. Adds old new at g)
leaf r old new f g same =
    IfOk-weaker r (λ at. Adds old new at f) (λ at. Adds old new at g) (λ at adds. subst (Adds old new at) same adds)

-- an existing subformula has the same meaning after more are appended
still_reads : (mid new : List FlatForm) (k node : ℕ) → (more : List FlatForm) × (new ≡ mid ++ more) → k < length mid
    → reads (formula_at (forms_of new) k) node ≡ true
    → reads (formula_at (forms_of mid) k) node ≡ true
still_reads mid new k node more within read =
    sym (ap (λ (x : Formula). reads x node)
    (ap (λ es. formula_at (forms_of es) k) more.1 ∙ form-stays mid more.0 k within)) ∙ read

-- the form over a part names what the part names
abbrev pub Keeps : (Formula → Formula) → Type 0
Keeps wrap = (x : Formula) (node : ℕ) → names x node ≡ true → names (wrap x) node ≡ true

pub over_one : {E : Type 0} (r : Result ℕ E) (old mid new : List FlatForm) (p : ℕ) (wrap : Formula → Formula)
    (f g : Formula) → g ≡ wrap f
    → Keeps wrap → Adds old mid p f
    → IfOk r (λ at. Adds mid new at (wrap (formula_at (forms_of mid) p))) → IfOk r (λ at. Adds old new at g)
over_one r old mid new p wrap f g same keeps first =
    IfOk-weaker r (λ at. Adds mid new at (wrap (formula_at (forms_of mid) p))) (λ at. Adds old new at g)
    (λ at adds. record {
      added = both_added old mid new first.added adds.added;
      order = adds.order;
      last = adds.last;
      is = adds.is ∙ ap wrap first.is ∙ sym same;
      named = λ k node low high read. elim (cases_lt k (length mid)) [
        | inl early ↦ ap (λ (x : Formula). names x node) same
            ∙ keeps f node (first.named k node low early (still_reads mid new k node adds.added early read))
        | inr late ↦ ap (λ (x : Formula). names x node) (same ∙ ap wrap (sym first.is))
            ∙ adds.named k node late high read
      ];
    })

abbrev pub KeepsBoth : (Formula → Formula → Formula) → Type 0
KeepsBoth wrap =
    ((x y : Formula) (node : ℕ) → names x node ≡ true → names (wrap x y) node ≡ true)
    × ((x y : Formula) (node : ℕ) → names y node ≡ true → names (wrap x y) node ≡ true)

pub over_two : {E : Type 0} (r : Result ℕ E) (old mid next new : List FlatForm) (p q : ℕ)
    (wrap : Formula → Formula → Formula) (f g h : Formula) → h ≡ wrap f g
    → KeepsBoth wrap → Adds old mid p f → Adds mid next q g
    → IfOk r (λ at. Adds next new at (wrap (formula_at (forms_of next) p) (formula_at (forms_of next) q)))
    → IfOk r (λ at. Adds old new at h)
over_two r old mid next new p q wrap f g h same keeps first second =
    IfOk-weaker r (λ at. Adds next new at (wrap (formula_at (forms_of next) p) (formula_at (forms_of next) q)))
    (λ at. Adds old new at h)
    (λ at adds. record {
      added = both_added old next new (both_added old mid next first.added second.added) adds.added;
      order = adds.order;
      last = adds.last;
      is = adds.is ∙ ap₂ wrap (still old mid next p f first second.added) second.is ∙ sym same;
      named = λ k node low high read. elim (cases_lt k (length next)) [
        | inl early ↦
            let read_next = still_reads next new k node adds.added early read in
            ap (λ (x : Formula). names x node) same ∙ elim (cases_lt k (length mid)) [
              | inl left ↦ keeps.0 f g node
                  (first.named k node low left (still_reads mid next k node second.added left read_next))
              | inr right ↦ keeps.1 f g node (second.named k node right early read_next)
            ]
        | inr late ↦
            ap (λ (x : Formula). names x node)
            (same ∙ ap₂ wrap (sym (still old mid next p f first second.added)) (sym second.is))
            ∙ adds.named k node late high read
      ];
    })

pub both_places : (old mid next : List FlatForm) (p q : ℕ) (f g : Formula) → Adds old mid p f → Adds mid next q g
    → (p < length next) × (q < length next)
both_places old mid next p q f g first second =
    let more = second.added in
    let size : length next ≡ length mid + length more.0 = ap length more.1 ∙ length-append mid more.0 in
    (omega (arith, size, part_place old mid p f first), part_place mid next q g second)
