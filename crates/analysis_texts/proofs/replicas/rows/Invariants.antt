use Rattle.std.proofs.Common.{◌≡◌, ℕ, List, length, map}
use Rattle.pals_base.specs.UpwardNumbers.{upwards}
use Rattle.pals_runs.specs.declared.replica_faults.VoteFault.{VoteFault}
use Rattle.analysis_texts.proofs.VotedRows.{HasVoted}
use Rattle.analysis_texts.proofs.replicas.rows.Given as goal

-- the product has voted, and the text has the rows, over the rounds before this one; and there is a value for each
-- root in port
abbrev pub invariant-loop-round : goal.invariant-loop-round
invariant-loop-round l = record {
  design : l.product.design ≡ l.fn.product.design;
  replicated : l.product.replicated ≡ l.fn.product.replicated;
  voted : (all : ℕ → List VoteFault) → l.fn.faults ≡ map all (upwards 0 (length l.fn.faults))
      → HasVoted l.fn.product.design l.env l.fn.product.replicated all l.round l.product.voted l.text.items;
  values : length l.values.items ≡ length l.env.lists;
}
