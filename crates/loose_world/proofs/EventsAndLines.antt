-- Sequences of events and their lines: one relation of states for another, one more event, the next event of a list,
-- and the text so far.
use Rattle.std.proofs.Common.{◌≡◌, ◌∙◌, ℕ, ◌+◌, ◌<◌, List, [], ◌∷◌, ◌++◌, length, take, refl, sym, ap, subst}
use Rattle.std.proofs.Common.{append_assoc, append-nil}
use Rattle.std.specs.Prelude.{slice_index_or}
use Rattle.std.proofs.lemmas.List.{take_more}
use Rattle.pals_model.specs.RoundTexts.{text_of}
use Rattle.pals_model.proofs.TextLineLaws.{text_of-append}
use Rattle.pals_runs.specs.declared.events_and_faults.Event.{Event}
use Rattle.pals_bus.specs.BusValues.{BusValue}
use Rattle.loose_world.specs.LooseRuns.{InTurn, told_by}

-- one relation for another
pub turns_weaker : (R Q : BusValue → Event → BusValue → Type 0)
    → ((s : BusValue) (e : Event) (t : BusValue) → R s e t → Q s e t)
    → (s t : BusValue) (events : List Event) (lines : List (List ℕ)) → InTurn R s events t lines
    → InTurn Q s events t lines
turns_weaker R Q weaker s t [] lines turns = turns
turns_weaker R Q weaker s t (e ∷ events) lines turns =
    (turns.0, turns.1, weaker s e turns.0 turns.2, turns_weaker R Q weaker turns.0 t events turns.1 turns.3, turns.4)

-- one more event
turns_more : (R : BusValue → Event → BusValue → Type 0) (s t u : BusValue) (events : List Event) (e : Event)
    (lines : List (List ℕ))
    → InTurn R s events t lines → R t e u → InTurn R s (events ++ e ∷ []) u (lines ++ told_by u e)
turns_more R s t u [] e lines turns leads = (
  u,
  [],
  subst (λ (v : BusValue). R v e u) turns.0 leads,
  (refl, refl),
  ap (λ (ls : List (List ℕ)). ls ++ told_by u e) turns.1 ∙ sym (append-nil (told_by u e)),
)
turns_more R s t u (x ∷ events) e lines turns leads = (
  turns.0,
  turns.1 ++ told_by u e,
  turns.2,
  turns_more R turns.0 t u events e turns.1 turns.3 leads,
  ap (λ (ls : List (List ℕ)). ls ++ told_by u e) turns.4 ∙ append_assoc (told_by turns.0 x) turns.1 (told_by u e),
)

-- the next event of a list
pub turns_next : (R : BusValue → Event → BusValue → Type 0) (s t u : BusValue) (events : List Event) (first : ℕ)
    (d : Event) (lines : List (List ℕ))
    → first < length events → InTurn R s (take first events) t lines → R t (slice_index_or events first d) u
    → InTurn R s (take (first + 1) events) u (lines ++ told_by u (slice_index_or events first d))
turns_next R s t u events first d lines within turns leads =
    let e = slice_index_or events first d in
    subst (λ (es : List Event). InTurn R s es u (lines ++ told_by u e)) (sym (take_more events first d within))
    (turns_more R s t u (take first events) e lines turns leads)

-- a text so far, and more lines
pub told_more : (old mid new : List ℕ) (lines more : List (List ℕ)) → mid ≡ old ++ text_of lines
    → new ≡ mid ++ text_of more
    → new ≡ old ++ text_of (lines ++ more)
told_more old mid new lines more so_far is =
    is
    ∙ ap (λ (xs : List ℕ). xs ++ text_of more) so_far
    ∙ append_assoc old (text_of lines) (text_of more)
    ∙ ap (λ (xs : List ℕ). old ++ xs) (sym (text_of-append lines more))
