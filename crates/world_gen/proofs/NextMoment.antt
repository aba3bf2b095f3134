-- The next moment of a list of event series: no event of them is before it, and one is at it.
use Rattle.std.proofs.Common.{◌≡◌, ◌≢◌, ◌⊎◌, inl, inr, ℕ, ◌+◌, ◌*◌, ◌<◌, ◌≤◌, min, List, [], ◌∷◌, ◌++◌, Option, Some}
use Rattle.std.proofs.Common.{None, All, refl, sym, ap, ◌∙◌, subst, arith}
use Rattle.std.specs.Prelude.{fold, option_map}
use Rattle.std.proofs.lemmas.List.Elements.{All-head, All-tail}
use Rattle.std.proofs.lemmas.Bool.{cases_lt}
use Rattle.std.proofs.lemmas.Nat.{mul-le}
use Rattle.pals_base.specs.declared.limits.TheConstants.{READING}
use Rattle.pals_runs.specs.declared.events_and_faults.Event.{Event}
use Rattle.run_laws.specs.Deadlines.{lesser}
use Rattle.world_gen.specs.declared.event_series.EventSeries.{EventSeries}
use Rattle.world_gen.specs.proof.Schedules.{number_at_moment, event_list}
use Rattle.world_gen.specs.proof.EventSeries.{IsEventSeries, time_of, next_of, event_of_kind, series_events, events_of}
use Rattle.world_gen.specs.proof.EventSeries.{next_moment}
use Rattle.world_gen.proofs.NextSeriesEvents.{is_next, quiet_until, quiet_after, next_comes}
use Rattle.world_gen.proofs.ExactlyOneSchedule.{nothing_of, nil_both}

abbrev next_time : ℕ → EventSeries → Option ℕ
next_time from c = option_map (time_of c) (next_of c from)

-- ---- the minimum of some times
-- a time, if there is one, is not before this
abbrev IsLate : ℕ → Option ℕ → Type 0
IsLate moment None = Unit {0}
IsLate moment (Some time) = moment ≤ time

late_both : (moment : ℕ) (a b : Option ℕ) → IsLate moment (lesser a b) → IsLate moment a × IsLate moment b
late_both moment None b late = (tt, late)
late_both moment (Some a) None late = (late, tt)
late_both moment (Some a) (Some b) late = let least : moment ≤ min a b = late in (omega arith, omega arith)

one_of_both : (moment : ℕ) (a b : Option ℕ) → lesser a b ≡ Some moment → (a ≡ Some moment) ⊎ (b ≡ Some moment)
one_of_both moment None b is = inr is
one_of_both moment (Some a) None is = inl is
one_of_both moment (Some a) (Some b) is =
    let least : min a b ≡ moment = cc in
    elim (cases_lt b a) [
      | inl right ↦ inr (ap Some (omega arith))
      | inr left ↦ inl (ap Some (omega arith))
    ]

none_of_both : (a b : Option ℕ) → lesser a b ≡ None → (a ≡ None) × (b ≡ None)
none_of_both None b is = (refl, is)
none_of_both (Some a) None is = absurd (cc)
none_of_both (Some a) (Some b) is = absurd (cc)

-- how the next event of each series relates to a moment
abbrev AreLate : ℕ → ℕ → List EventSeries → Type 0
AreLate from moment [] = Unit {0}
AreLate from moment (c ∷ cs) = IsLate moment (next_time from c) × AreLate from moment cs

abbrev OneIsAt : ℕ → ℕ → List EventSeries → Type 0
OneIsAt from moment [] = ⊥
OneIsAt from moment (c ∷ cs) = (next_time from c ≡ Some moment) ⊎ OneIsAt from moment cs

abbrev AreOver : ℕ → List EventSeries → Type 0
AreOver from [] = Unit {0}
AreOver from (c ∷ cs) = (next_time from c ≡ None) × AreOver from cs

abbrev least_from : ℕ → Option ℕ → List EventSeries → Option ℕ
least_from from first all_series =
    fold (λ moment series. lesser moment (option_map (time_of series) (next_of series from))) first all_series

late_self : (moment : ℕ) (o : Option ℕ) → o ≡ Some moment → IsLate moment o
late_self moment o is = let least : moment ≤ moment = omega arith in subst (IsLate moment) (sym is) least

record IsLeast (from moment : ℕ) (first : Option ℕ) (all_series : List EventSeries) : Type 0 where
  first_late : IsLate moment first
  late : AreLate from moment all_series
  there : (first ≡ Some moment) ⊎ OneIsAt from moment all_series

least_is : (from moment : ℕ) (first : Option ℕ) (all_series : List EventSeries)
    → least_from from first all_series ≡ Some moment → IsLeast from moment first all_series
least_is from moment first [] is = record { first_late = late_self moment first is; late = tt; there = inl is }
least_is from moment first (c ∷ cs) is =
    let rest = least_is from moment (lesser first (next_time from c)) cs is in
    let both = late_both moment first (next_time from c) rest.first_late in
    record {
      first_late = both.0;
      late = (both.1, rest.late);
      there = elim rest.there [
        | inl now ↦ elim (one_of_both moment first (next_time from c) now)
            [ inl here ↦ inl here | inr here ↦ inr (inl here) ]
        | inr later ↦ inr (inr later)
      ];
    }

over_from : (from : ℕ) (first : Option ℕ) (all_series : List EventSeries) → least_from from first all_series ≡ None
    → (first ≡ None) × AreOver from all_series
over_from from first [] is = (is, tt)
over_from from first (c ∷ cs) is =
    let rest = over_from from (lesser first (next_time from c)) cs is in
    let both = none_of_both first (next_time from c) rest.0 in
    (both.0, (both.1, rest.1))

-- ---- one course
-- where its next deed is not before a moment, nothing comes before that
late_next : (c : EventSeries) (from moment : ℕ) (o : Option ℕ) → next_of c from ≡ o
    → IsLate moment (option_map (time_of c) o) → (time : ℕ) → from ≤ time → time < moment
    → number_at_moment (time_of c) c.count time ≡ None
late_next c from moment None is late time after before = quiet_after c from time is after
late_next c from moment (Some n) is late time after before = let there : moment ≤ time_of c n = late in
    quiet_until c from n time is after (omega arith)

over_next : (c : EventSeries) (from : ℕ) (o : Option ℕ) → next_of c from ≡ o → option_map (time_of c) o ≡ None
    → next_of c from ≡ None
over_next c from None is none = is
over_next c from (Some n) is none = absurd (cc)

record ComesAt (c : EventSeries) (from moment : ℕ) : Type 0 where
  number : ℕ
  comes : number_at_moment (time_of c) c.count moment ≡ Some number
  after : from ≤ moment
  reading : moment ≤ READING

comes_next : (c : EventSeries) (from moment : ℕ) (o : Option ℕ) → IsEventSeries c → next_of c from ≡ o
    → option_map (time_of c) o ≡ Some moment → ComesAt c from moment
comes_next c from moment None sound is now = absurd (cc)
comes_next c from moment (Some n) sound is now =
    let next = is_next c from n is in
    let at : time_of c n ≡ moment = cc in
    let below = next.below in
    let reached = next.reached in
    let fits = sound.fits in
    let product : n * c.every ≤ c.count * c.every = mul-le n c.every c.count c.every (omega arith) (omega arith) in
    record {
      number = n;
      comes = subst (λ m. number_at_moment (time_of c) c.count m ≡ Some n) at (next_comes c from n sound.rises is);
      after = omega arith;
      reading = omega arith;
    }

-- ---- all of them
none_before : (from moment : ℕ) (all_series : List EventSeries) → AreLate from moment all_series → (time : ℕ)
    → from ≤ time
    → time < moment → events_of all_series time ≡ []
none_before from moment [] late time after before = refl
none_before from moment (c ∷ cs) late time after before =
    nil_both (series_events time c) (events_of cs time)
    (nothing_of (number_at_moment (time_of c) c.count time) (event_of_kind c.event_kind)
    (late_next c from moment (next_of c from) refl late.0 time after before))
    (none_before from moment cs late.1 time after before)

none_after : (from : ℕ) (all_series : List EventSeries) → AreOver from all_series → (time : ℕ) → from ≤ time
    → events_of all_series time ≡ []
none_after from [] over time after = refl
none_after from (c ∷ cs) over time after =
    nil_both (series_events time c) (events_of cs time)
    (nothing_of (number_at_moment (time_of c) c.count time) (event_of_kind c.event_kind)
    (quiet_after c from time (over_next c from (next_of c from) refl over.0) after))
    (none_after from cs over.1 time after)

some_left : (xs ys : List Event) (e : Event) → xs ≡ e ∷ [] → xs ++ ys ≢ []
some_left xs ys e is none = let both : e ∷ ys ≡ [] = ap (λ l. l ++ ys) (sym is) ∙ none in cc

some_right : (xs ys : List Event) → ys ≢ [] → xs ++ ys ≢ []
some_right [] ys some none = some none
some_right (x ∷ xs) ys some none = cc

record SomethingAt (all_series : List EventSeries) (from moment : ℕ) : Type 0 where
  something : events_of all_series moment ≢ []
  after : from ≤ moment
  reading : moment ≤ READING

some_at : (from moment : ℕ) (all_series : List EventSeries) → All IsEventSeries all_series
    → OneIsAt from moment all_series
    → SomethingAt all_series from moment
some_at from moment [] sound there = absurd there
some_at from moment (c ∷ cs) sound (inl here) =
    let comes = comes_next c from moment (next_of c from) (All-head IsEventSeries c cs sound) refl here in
    record {
      something =
          some_left (series_events moment c) (events_of cs moment) (event_of_kind c.event_kind comes.number)
          (ap (λ o. event_list o (event_of_kind c.event_kind)) comes.comes);
      after = comes.after;
      reading = comes.reading;
    }
some_at from moment (c ∷ cs) sound (inr later) =
    let rest = some_at from moment cs (All-tail IsEventSeries c cs sound) later in
    record {
      something = some_right (series_events moment c) (events_of cs moment) rest.something;
      after = rest.after;
      reading = rest.reading;
    }

-- ---- the next moment
pub record IsNextMoment (all_series : List EventSeries) (from moment : ℕ) : Type 0 where
  pub after : from ≤ moment
  pub quiet : (time : ℕ) → from ≤ time → time < moment → events_of all_series time ≡ []
  pub something : events_of all_series moment ≢ []
  pub reading : moment ≤ READING

pub moment_is : (all_series : List EventSeries) (from moment : ℕ) → All IsEventSeries all_series
    → next_moment all_series from ≡ Some moment → IsNextMoment all_series from moment
moment_is all_series from moment sound is =
    let least = least_is from moment None all_series is in
    elim least.there [
      | inl none ↦ absurd (cc)
      | inr there ↦
          let one = some_at from moment all_series sound there in
          record {
            after = one.after;
            quiet = none_before from moment all_series least.late;
            something = one.something;
            reading = one.reading;
          }
    ]

pub moments_are_over : (all_series : List EventSeries) (from : ℕ) → next_moment all_series from ≡ None → (time : ℕ)
    → from ≤ time → events_of all_series time ≡ []
moments_are_over all_series from is = none_after from all_series (over_from from None all_series is).1
