-- The terminals that the machine has taken and the remaining stack, when it stops with a syntax fault, stops for
-- depth, or finishes; each fate implies this description.
use Rattle.std.proofs.Common.{◌≡◌, ℕ, ◌+◌, ◌<◌, ◌≤◌, Bool, true, false, cond, ◌∙◌, ap, refl, List, [], ◌∷◌, ◌++◌}
use Rattle.std.proofs.Common.{Option, Some, None}
use Rattle.std.specs.Prelude.{nat_lt}
use Rattle.std.proofs.lemmas.Bool as bool
use Rattle.aadl_tree.specs.declared.nesting_limit.TheConstants.{GREATEST_NESTING}
use Rattle.aadl_tree.specs.Terminals.{PlacedTerminal, kinds_of}
use Rattle.aadl_tree.specs.TerminalFaults.{place}
use Rattle.aadl_grammar.specs.proof.StackMachine.{Stack, stack_after, ends, depth, Fate, finished, syntax_at, deep_at}
use Rattle.aadl_grammar.specs.proof.StackMachine.{fate_after, fate}
use Rattle.aadl_grammar.proofs.Fates.StackAfterTerminals.{stack_after_all, walk_more, Within, within_nothing}
use Rattle.aadl_grammar.proofs.Fates.StackAfterTerminals.{within_more}

abbrev pub StopsBy : Stack → List PlacedTerminal → Type 0
StopsBy last [] = ends last ≡ false
StopsBy last (t ∷ ts) = stack_after last t.kind ≡ None

pub record Stops (outer end : ℕ) (wanted : Stack) (ts : List PlacedTerminal) (at : ℕ) : Type 0 where
  pub seen : List PlacedTerminal
  pub left : List PlacedTerminal
  pub last : Stack
  pub whole : ts ≡ seen ++ left
  pub place : at ≡ place end left
  pub walked : stack_after_all wanted (kinds_of seen) ≡ Some last
  pub stops : StopsBy last left
  pub within : Within outer wanted (kinds_of seen)

pub record Deepens (outer : ℕ) (wanted : Stack) (ts : List PlacedTerminal) (at : ℕ) : Type 0 where
  pub seen : List PlacedTerminal
  pub opener : PlacedTerminal
  pub left : List PlacedTerminal
  pub last : Stack
  pub after : Stack
  pub whole : ts ≡ seen ++ opener ∷ left
  pub place : at ≡ opener.at
  pub walked : stack_after_all wanted (kinds_of seen) ≡ Some last
  pub stepped : stack_after last opener.kind ≡ Some after
  pub deep : GREATEST_NESTING < outer + depth after
  pub within : Within outer wanted (kinds_of seen)

pub record Finishes (outer : ℕ) (wanted : Stack) (ts : List PlacedTerminal) : Type 0 where
  pub last : Stack
  pub walked : stack_after_all wanted (kinds_of ts) ≡ Some last
  pub ended : ends last ≡ true
  pub within : Within outer wanted (kinds_of ts)

same_place : (a b : ℕ) → syntax_at a ≡ syntax_at b → a ≡ b
same_place a b e = cc

same_deep : (a b : ℕ) → deep_at a ≡ deep_at b → a ≡ b
same_deep a b e = cc

-- the fate of the terminals, with the fact that each fate implies
abbrev pub Tells : ℕ → ℕ → Stack → List PlacedTerminal → Fate → Type 0
Tells outer end wanted ts finished = Finishes outer wanted ts
Tells outer end wanted ts (syntax_at at) = Stops outer end wanted ts at
Tells outer end wanted ts (deep_at at) = Deepens outer wanted ts at

tells_end : (outer end : ℕ) (wanted : Stack) → outer + depth wanted ≤ GREATEST_NESTING → (b : Bool) → ends wanted ≡ b
    → Tells outer end wanted [] (cond b finished (syntax_at end))
unfolding stack_after_all
tells_end outer end wanted h true g =
    record { last = wanted; walked = refl; ended = g; within = within_nothing outer wanted h }
tells_end outer end wanted h false g =
    record {
      seen = [];
      left = [];
      last = wanted;
      whole = refl;
      place = refl;
      walked = refl;
      stops = g;
      within = within_nothing outer wanted h;
    }

tells_more : (outer end : ℕ) (t : PlacedTerminal) (ts : List PlacedTerminal) (wanted next : Stack)
    → outer + depth wanted ≤ GREATEST_NESTING
    → stack_after wanted t.kind ≡ Some next → (f : Fate) → Tells outer end next ts f → Tells outer end wanted (t ∷ ts) f
tells_more outer end t ts wanted next h g finished r =
    record {
      last = r.last;
      walked = walk_more wanted next t.kind (kinds_of ts) g ∙ r.walked;
      ended = r.ended;
      within = within_more outer wanted next t.kind (kinds_of ts) h g r.within;
    }
tells_more outer end t ts wanted next h g (syntax_at at) r = record {
  seen = t ∷ r.seen;
  left = r.left;
  last = r.last;
  whole = ap (λ x. t ∷ x) r.whole;
  place = r.place;
  walked = walk_more wanted next t.kind (kinds_of r.seen) g ∙ r.walked;
  stops = r.stops;
  within = within_more outer wanted next t.kind (kinds_of r.seen) h g r.within;
}
tells_more outer end t ts wanted next h g (deep_at at) r = record {
  seen = t ∷ r.seen;
  opener = r.opener;
  left = r.left;
  last = r.last;
  after = r.after;
  whole = ap (λ x. t ∷ x) r.whole;
  place = r.place;
  walked = walk_more wanted next t.kind (kinds_of r.seen) g ∙ r.walked;
  stepped = r.stepped;
  deep = r.deep;
  within = within_more outer wanted next t.kind (kinds_of r.seen) h g r.within;
}

tells_on : (outer end : ℕ) (t : PlacedTerminal) (ts : List PlacedTerminal) (wanted next : Stack)
    → outer + depth wanted ≤ GREATEST_NESTING
    → stack_after wanted t.kind ≡ Some next
    → (outer + depth next ≤ GREATEST_NESTING → Tells outer end next ts (fate outer end next ts))
    → (b : Bool) → nat_lt GREATEST_NESTING (outer + depth next) ≡ b
    → Tells outer end wanted (t ∷ ts) (cond b (deep_at t.at) (fate outer end next ts))
unfolding stack_after_all
tells_on outer end t ts wanted next h g again true i = record {
  seen = [];
  opener = t;
  left = ts;
  last = wanted;
  after = next;
  whole = refl;
  place = refl;
  walked = refl;
  stepped = g;
  deep = bool.ltb-true GREATEST_NESTING (outer + depth next) i;
  within = within_nothing outer wanted h;
}
tells_on outer end t ts wanted next h g again false i =
    tells_more outer end t ts wanted next h g (fate outer end next ts)
    (again (bool.ltb-false GREATEST_NESTING (outer + depth next) i))

tells_by : (outer end : ℕ) (t : PlacedTerminal) (ts : List PlacedTerminal) (wanted : Stack)
    → outer + depth wanted ≤ GREATEST_NESTING
    → ((next : Stack) → outer + depth next ≤ GREATEST_NESTING → Tells outer end next ts (fate outer end next ts))
    → (o : Option Stack) → stack_after wanted t.kind ≡ o
    → Tells outer end wanted (t ∷ ts) (fate_after outer o t.at (λ next. fate outer end next ts))
unfolding stack_after_all
tells_by outer end t ts wanted h again None g =
    record {
      seen = [];
      left = t ∷ ts;
      last = wanted;
      whole = refl;
      place = refl;
      walked = refl;
      stops = g;
      within = within_nothing outer wanted h;
    }
tells_by outer end t ts wanted h again (Some next) g =
    tells_on outer end t ts wanted next h g (again next) (nat_lt GREATEST_NESTING (outer + depth next)) refl

pub tells : (outer end : ℕ) (ts : List PlacedTerminal) (wanted : Stack) → outer + depth wanted ≤ GREATEST_NESTING
    → Tells outer end wanted ts (fate outer end wanted ts)
unfolding fate
tells outer end [] wanted h = tells_end outer end wanted h (ends wanted) refl
tells outer end (t ∷ ts) wanted h =
    tells_by outer end t ts wanted h (λ next low. tells outer end ts next low) (stack_after wanted t.kind) refl
