-- For `run_loose`: the effect of the first events of a list, one more event, and the result if memory runs out.
use Rattle.std.proofs.Common.{◌≡◌, ◌∙◌, Result, Ok, Err, OnErr, ℕ, ◌+◌, ◌<◌, List, [], ◌++◌, length, take, None, refl}
use Rattle.std.proofs.Common.{sym, ap, append-nil}
use Rattle.std.specs.Prelude.{slice_index_or}
use Rattle.pals_model.specs.RoundTexts.{text_of}
use Rattle.pals_runs.specs.declared.events_and_faults.Event.{Event}
use Rattle.pals_bus.specs.BusValues.{BusValue, Happens}
use Rattle.pals_bus.specs.LooseEvents.{GoesOn, HappensLoose}
use Rattle.loose_world.specs.LooseRuns.{AllHappen, IsCutShort, told_by}
use Rattle.loose_world.proofs.EventsAndLines.{turns_next, told_more}

-- ---- the first events of a list
pub record AreDone (s : BusValue) (events : List Event) (first : ℕ) (t : BusValue) (old new : List ℕ) : Type 0 where
  pub lines : List (List ℕ)
  pub happen : AllHappen s (take first events) t lines
  pub told : new ≡ old ++ text_of lines
  pub going : t.state.stop ≡ None
  pub run : t.run ≡ s.run
  pub meeting : t.meeting ≡ s.meeting

pub done_none : (s : BusValue) (events : List Event) (text : List ℕ) → s.state.stop ≡ None
    → AreDone s events 0 s text text
done_none s events text going =
    record {
      lines = [];
      happen = (refl, refl);
      told = sym (append-nil text);
      going = going;
      run = refl;
      meeting = refl;
    }

pub loose_keeps_run : (old : BusValue) (e : Event) (new : BusValue) → HappensLoose old e new → new.run ≡ old.run
loose_keeps_run old e new happens = let same : Happens old happens.0 new = happens.2 in
    ap (λ (b : BusValue). b.run) same.others

meeting_loose : (old : BusValue) (e : Event) (new : BusValue) → HappensLoose old e new → new.meeting ≡ old.meeting
meeting_loose old e new happens = let same : Happens old happens.0 new = happens.2 in
    ap (λ (b : BusValue). b.meeting) same.others

pub done_more : (s : BusValue) (events : List Event) (first : ℕ) (t u : BusValue) (old mid new : List ℕ) (d : Event)
    → first < length events → AreDone s events first t old mid → GoesOn t (slice_index_or events first d) u
    → new ≡ mid ++ text_of (told_by u (slice_index_or events first d)) → AreDone s events (first + 1) u old new
done_more s events first t u old mid new d within done goes told =
    let e = slice_index_or events first d in
    record {
      lines = done.lines ++ told_by u e;
      happen = turns_next GoesOn s t u events first d done.lines within done.happen goes;
      told = told_more old mid new done.lines (told_by u e) done.told told;
      going = goes.going;
      run = loose_keeps_run t e u goes.happens ∙ done.run;
      meeting = meeting_loose t e u goes.happens ∙ done.meeting;
    }

-- ---- if there is not enough memory
-- what a refused call leaves
pub on_err : {T E P : Type 0} (r : Result T E) → P → OnErr r P
on_err (Ok x) here = tt
on_err (Err x) here = here

-- after an event whose lines are missing
pub cut_behind : (s : BusValue) (events : List Event) (first : ℕ) (t u : BusValue) (old mid new : List ℕ) (d : Event)
    → first < length events → AreDone s events first t old mid → GoesOn t (slice_index_or events first d) u → new ≡ mid
    → IsCutShort s events u old new
cut_behind s events first t u old mid new d within done goes kept =
    let e = slice_index_or events first d in
    record {
      done = first + 1;
      told = done.lines;
      untold = told_by u e;
      happen = turns_next GoesOn s t u events first d done.lines within done.happen goes;
      text = kept ∙ done.told;
    }
