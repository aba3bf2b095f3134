-- Several monitors advance by a row of frames, one monitor after another.
use Rattle.std.proofs.Common.{◌≡◌, ◌∙◌, inl, inr, ℕ, zero, suc, ◌+◌, ◌<◌, ◌≤◌, Bool, false, not, cond, List, [], ◌∷◌}
use Rattle.std.proofs.Common.{◌++◌, length, map, All, get_or, slice_set, Option, Some, None, position, refl, sym, ap}
use Rattle.std.proofs.Common.{ap₂, subst, arith, eq-or-lt_of_le, add-one}
use Rattle.std.specs.List.{position_from}
use Rattle.std.specs.Option.{option_map, option_or}
use Rattle.std.proofs.lemmas.List.{get_or-set_other, map-append}
use Rattle.std.proofs.lemmas.List.Elements.{All-nil, All-push}
use Rattle.std.proofs.lemmas.Grind.{get_or-set_at}
use Rattle.std.proofs.lemmas.Iterator.Adapters.{position_from-zero}
use Rattle.std.proofs.lemmas.Simd.{map-map}
use Rattle.pals_base.specs.declared.frames.Frame.{Frame}
use Rattle.pals_model.specs.declared.design.DesignParts.{DesignParts}
use Rattle.pals_model.specs.declared.environment.Env.{Env}
use Rattle.pals_model.specs.Composition.{comp}
use Rattle.pals_runs.specs.Formula.{Formula}
use Rattle.run_monitor.specs.declared.false_property.FalseProperty.{FalseProperty}
use Rattle.run_monitor.specs.FormulaSemantics.{holds, frame_rows}
use Rattle.run_monitor.specs.FalseProperties.{formula_values}
use Rattle.run_monitor.specs.proof.MonitorStates.{MonitorState, whole, said, StandsFor, IsNew, GoesOn}
use Rattle.run_monitor.specs.proof.SeveralMonitors.{MonitorsState, HasWatched, WatchesOn, WatchesRound, EachGoesOn}
use Rattle.run_monitor.proofs.WatchTextGrowth.{first_false-more}
use Rattle.run_monitor.proofs.FrameRowGrowth.{history_goes_on, history_has_rounds}

abbrev no_monitor : MonitorState
no_monitor = record { forms = []; begun = false; kept = []; seen = [] }

-- ---- one after the other
-- the monitors before an index have advanced, and the others are unchanged
pub record GoneTo (old new : List MonitorState) (row : List Frame) (at : ℕ) : Type 0 where
  pub size : length new ≡ length old
  pub done : (k : ℕ) (d : MonitorState) → k < at → k < length old → GoesOn (get_or old k d) (get_or new k d) row
  pub rest : (k : ℕ) (d : MonitorState) → at ≤ k → get_or new k d ≡ get_or old k d

pub gone_more : (old now new : List MonitorState) (row : List Frame) (at : ℕ) (m n : MonitorState)
    → GoneTo old now row at → at < length now
    → m ≡ get_or now at m → GoesOn m n row → length new ≡ length now → new ≡ slice_set now at n
    → GoneTo old new row (at + 1)
gone_more old now new row at m n gone within item on size is = record {
  size = size ∙ gone.size;
  done = λ k d below inside. (
      let upto : k ≤ at = omega (arith, below) in
      subst (λ (ms : List MonitorState). GoesOn (get_or old k d) (get_or ms k d) row) (sym is)
      (elim (eq-or-lt_of_le upto) [
        | inl here ↦
            let was : m ≡ get_or old k d =
            item ∙ default now at m d within ∙ gone.rest at d (omega arith) ∙ ap (λ j. get_or old j d) (sym here) in
            let is_now : n ≡ get_or (slice_set now at n) k d = sym (get_or-set_at now at k n d here within) in
            subst (λ (x : MonitorState). GoesOn x (get_or (slice_set now at n) k d) row) was
            (subst (λ (y : MonitorState). GoesOn m y row) is_now on)
        | inr less ↦
            subst (λ (y : MonitorState). GoesOn (get_or old k d) y row)
            (sym (get_or-set_other now at k n d (λ same. omega (arith, same, less))))
            (gone.done k d less inside)
      ]));
  rest = λ k d above.
      ap (λ (ms : List MonitorState). get_or ms k d) is
      ∙ get_or-set_other now at k n d (λ same. omega (arith, same, above))
      ∙ gone.rest k d (omega (arith, above));
}
  where
    default : (ms : List MonitorState) (k : ℕ) (x y : MonitorState) → k < length ms → get_or ms k x ≡ get_or ms k y
    default [] k x y within = absurd (omega arith)
    default (m ∷ ms) zero x y within = refl
    default (m ∷ ms) (suc k) x y within = default ms k x y (omega arith)

pub gone_all : (old new : List MonitorState) (row : List Frame) (at : ℕ) → GoneTo old new row at → length old ≤ at
    → EachGoesOn old new row
gone_all old new row at gone past = record {
  size = gone.size;
  each = λ k d within. gone.done k d (omega (arith, within, past)) within;
}

-- ---- all of them
all-same : {X : Type 0} (f g : MonitorState → X) (xs ys : List MonitorState) → length ys ≡ length xs
    → ((k : ℕ) → k < length xs → f (get_or ys k no_monitor) ≡ g (get_or xs k no_monitor)) → map f ys ≡ map g xs
all-same f g [] [] size same = refl
all-same f g [] (y ∷ ys) size same = absurd (omega arith)
all-same f g (x ∷ xs) [] size same = absurd (omega arith)
all-same f g (x ∷ xs) (y ∷ ys) size same =
    ap₂ (λ a bs. a ∷ bs) (same 0 (omega arith))
    (all-same f g xs ys (omega arith) (λ k within. same (suc k) (omega arith)))

module _ (old new : List MonitorState) (fs : List Formula) (h : List (List Frame)) (row : List Frame)
    (each : EachGoesOn old new row)
    (formulas : map whole old ≡ fs) (stand : All (λ m. StandsFor m h) old) where
  abbrev longer : List (List Frame)
  longer = h ++ row ∷ []

  pub formulas_stay : map whole new ≡ fs
  formulas_stay =
      all-same whole whole old new each.size
      (λ k within. (let on = each.each k no_monitor within in on.formula)) ∙ formulas

  pub all_stand : All (λ m. StandsFor m longer) new
  all_stand k d within =
      let inside : k < length old = (let size = each.size in omega (arith, within, size)) in
      let on = each.each k d inside in
      on.stands h (stand k d inside)

  pub all_say : map said new ≡ formula_values fs longer (length h)
  all_say =
      let test : Formula → Bool = λ f. holds f longer (length h) in
      all-same said (λ m. test (whole m)) old new each.size (λ k within.
      (let on = each.each k no_monitor within in on.says h (stand k no_monitor within)))
      ∙ sym (map-map test whole old) ∙ ap (map test) formulas

-- ---- the calls
pub none_watched : (m : MonitorsState) → m.monitors ≡ [] → m.violation ≡ None → HasWatched m [] []
none_watched m no_monitors no_violation = record {
  formulas = ap (map whole) no_monitors;
  stand = subst (All (λ m. StandsFor m [])) (sym no_monitors) (All-nil (λ m. StandsFor m []));
  first = no_violation;
}

pub one_more : (old new : MonitorsState) (m : MonitorState) (fs : List Formula) (f : Formula)
    → new.monitors ≡ old.monitors ++ m ∷ []
    → new.violation ≡ old.violation → IsNew f m → HasWatched old fs [] → HasWatched new (fs ++ f ∷ []) []
one_more old new m fs f added same is_new watched = record {
  formulas = ap (map whole) added ∙ map-append whole old.monitors (m ∷ [])
      ∙ ap₂ (λ gs g. gs ++ g ∷ []) watched.formulas is_new.formula;
  stand =
      subst (All (λ m. StandsFor m [])) (sym added)
      (All-push (λ m. StandsFor m []) old.monitors m watched.stand is_new.stands);
  first = same ∙ watched.first;
}

-- the first of images that passes
image-from : {X Y : Type 0} (p : Y → Bool) (f : X → Y) (from : ℕ) (xs : List X)
    → position_from (λ x. p (f x)) from xs ≡ position_from p from (map f xs)
image-from p f from [] = refl
image-from p f from (x ∷ xs) = ap (cond (p (f x)) (Some from)) (image-from p f (from + 1) xs)

image-position : {X Y : Type 0} (p : Y → Bool) (f : X → Y) (xs : List X)
    → position (λ x. p (f x)) xs ≡ position p (map f xs)
image-position p f xs =
    position_from-zero (λ x. p (f x)) xs ∙ image-from p f 0 xs ∙ sym (position_from-zero p (map f xs))

abbrev pub at_round : ℕ → Option ℕ → Option FalseProperty
at_round round found = option_map (λ k. record { property = k; round = round }) found

-- the violation of the first that is false
abbrev pub false_in : MonitorsState → ℕ → Option FalseProperty
false_in m round = at_round round (position (λ n. not (said n)) m.monitors)

pub watch_on : (old new : MonitorsState) (round : ℕ) (row : List Frame) → EachGoesOn old.monitors new.monitors row
    → new.violation ≡ option_or old.violation (false_in new round) → (fs : List Formula) (h : List (List Frame))
    → HasWatched old fs h
    → round ≡ length h
    → WatchesOn new fs h row
watch_on old new round row each first fs h watched at =
    let says = all_say old.monitors new.monitors fs h row each watched.formulas watched.stand in
    record {
      watched = record {
        formulas = formulas_stay old.monitors new.monitors fs h row each watched.formulas watched.stand;
        stand = all_stand old.monitors new.monitors fs h row each watched.formulas watched.stand;
        first = first
            ∙ ap₂ option_or watched.first
            (ap (false_in new) at ∙ ap (at_round (length h))
            (image-position not said new.monitors ∙ ap (position not) says))
            ∙ sym (first_false-more fs h row);
      };
      says = says;
    }

pub watch_round : (new : MonitorsState) (design : DesignParts) (env : Env) (fs : List Formula) (round : ℕ)
    (row : List Frame)
    → row ≡ (comp design env (round + 1)).frames → WatchesOn new fs (frame_rows design env round) row
    → WatchesRound new design env fs round
watch_round new design env fs round row is on =
    let h = frame_rows design env round in
    let next : frame_rows design env (round + 1) ≡ h ++ row ∷ [] =
    ap (frame_rows design env) (add-one round) ∙ history_goes_on design env round
    ∙ ap (λ n. h ++ (comp design env n).frames ∷ []) (sym (add-one round))
    ∙ ap (λ (r : List Frame). h ++ r ∷ []) (sym is) in
    record {
      watched = subst (HasWatched new fs) (sym next) on.watched;
      says = on.says ∙ ap₂ (formula_values fs) (sym next) (history_has_rounds design env round);
    }
