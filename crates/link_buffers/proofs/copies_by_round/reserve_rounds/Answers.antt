use Rattle.std.proofs.Common.{◌≡◌, ℕ, length, filter, sym, ap, ◌∙◌, subst, arith}
use Rattle.std.proofs.Common.{Result, Ok, Err, OnOk, OnErr}
use Rattle.circular_buffer.specs.Buffer.{Buffer, buffer}
use Rattle.link_buffers.specs.proof.CopiesByRound.{copies_of, AreRising, has_copies}
use Rattle.link_buffers.proofs.OldestCopies.{shorter}
use Rattle.link_buffers.proofs.CopiesByRound.{rising_kept, copies_kept}
use Rattle.link_buffers.proofs.copies_by_round.reserve_rounds.Goals.{After-remove_empty, After-resize}
use Rattle.link_buffers.proofs.copies_by_round.reserve_rounds.Goals as goal

-- a ring has the same items, whether it is resized or not
same_items : {X E : Type 0} (old new : Buffer X) (n : ℕ) (result : Result (Unit {0}) E)
    → OnOk result (new ≡ buffer old.items n) → OnErr result (new ≡ old) → new.items ≡ old.items
same_items old new n (Ok done) ok err = ap (λ b. b.items) ok
same_items old new n (Err refused) ok err = ap (λ b. b.items) err

kept : (c : After-remove_empty) → c.remove_empty.new.rounds.items ≡ filter has_copies c.args.rounds.now.items
kept c = ap (λ b. b.items) c.remove_empty.ensures

pub returns-then-wanted-capacity-clause-rising : goal.returns-then-wanted-capacity-clause-rising
returns-then-wanted-capacity-clause-rising c =
    let s = (goal.at.returns-then-wanted-capacity-clause-rising c).After-remove_empty in
    subst AreRising (sym (kept s)) (rising_kept c.args.rounds.now.items c.requires)

pub returns-then-wanted-capacity-clause-copies : goal.returns-then-wanted-capacity-clause-copies
returns-then-wanted-capacity-clause-copies c round =
    let s = (goal.at.returns-then-wanted-capacity-clause-copies c).After-remove_empty in
    ap (copies_of round) (kept s) ∙ copies_kept round c.args.rounds.now.items c.requires

resized : (c : After-resize) → c.resize.new.self.items ≡ filter has_copies c.args.rounds.now.items
resized c =
    same_items c.remove_empty.new.rounds c.resize.new.self c.max.result c.resize.result c.resize.ensures.ok
    c.resize.ensures.err ∙ ap (λ b. b.items) c.remove_empty.ensures

pub returns-clause-rising : goal.returns-clause-rising
returns-clause-rising c = subst AreRising (sym (resized c)) (rising_kept c.args.rounds.now.items c.requires)

pub returns-clause-copies : goal.returns-clause-copies
returns-clause-copies c round =
    ap (copies_of round) (resized c) ∙ copies_kept round c.args.rounds.now.items c.requires

pub returns-clause-less : goal.returns-clause-less
returns-clause-less c =
    let long = ap length (resized c) in
    omega (arith, long, shorter has_copies c.args.rounds.now.items)
