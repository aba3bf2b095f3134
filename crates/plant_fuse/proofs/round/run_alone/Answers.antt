use Rattle.std.proofs.Common.{◌≡◌, ◌≢◌, ◌∙◌, ◌<◌, inl, inr, length, is_some, slice_get, sym, ap, subst, arith}
use Rattle.std.proofs.lemmas.Bool.{cases_lt}
use Rattle.std.proofs.lemmas.Option.{slice_get_within, same_Some}
use Rattle.sync_product.specs.proof.Rounds.{IsStepped, frames_of}
use Rattle.plant_fuse.specs.proof.PartnersAndPairLinks.{partner_of}
use Rattle.plant_fuse.proofs.PartnerListLength.{count_of_partners}
use Rattle.plant_fuse.proofs.RoundWork.{partner_entry, stepped_stays}
use Rattle.plant_fuse.proofs.round.run_alone.Goals as goal

pub index-requires : goal.index-requires
index-requires c =
    let within = c.loop-node-test.true in
    omega (
      arith,
      within,
      ap length c.components-node-end.ensures.value,
      count_of_partners c.args.round.design.now c.args.tables.now.pairs c.args.tables.now c.requires.tables,
    )

pub loop-node-preserved-then-is_some : goal.loop-node-preserved-then-is_some
loop-node-preserved-then-is_some c =
    let design = c.args.round.design.now in
    let pairs = c.args.tables.now.pairs in
    let node = c.loop-node.node in
    let inside : node < length design.components =
    (let within = c.loop-node-test.true in omega (arith, within, ap length c.components-node-end.ensures.value)) in
    let partner =
    partner_entry design pairs c.args.tables.now node c.index.result.now c.requires.tables inside c.index.ensures in
    record {
      run = λ k d below none is.
          elim (cases_lt k node) [
            | inl before ↦ c.loop-node.invariant.run k d before none is
            | inr not_before ↦ (
                let here : node ≡ k = omega (arith, below, not_before) in
                let alone = partner ∙ ap (λ n. partner_of pairs n) here ∙ none in
                let there = sym c.is_some.ensures ∙ c.if-is_some.true in
                let never = ap is_some alone in
                absurd (cc))
          ];
      parts = c.loop-node.invariant.parts;
      stages = c.loop-node.invariant.stages;
    }

pub loop-node-preserved : goal.loop-node-preserved
loop-node-preserved c =
    let round = c.args.round in
    let design = round.design.now in
    let frames = frames_of c.args.parts.now in
    let node = c.loop-node.node in
    let next = c.loop-node.next in
    let next' = c.run_one.new.next in
    let stages = c.loop-node.stages.items in
    let stages' = c.run_one.new.stages.items in
    let done = c.in_ok-run_one.ensures in
    record {
      run = λ k d below none is.
          elim (cases_lt k node) [
            | inl before ↦ (
                let other : k ≢ node = λ same. omega (arith, same, before) in
                stepped_stays round frames next next' stages stages' node node k d done.run.others other other
                (c.loop-node.invariant.run k d before none is))
            | inr not_before ↦ (
                let here : node ≡ k = omega (arith, below, not_before) in
                let one : done.run.component ≡ d =
                same_Some done.run.component d
                (sym done.run.component_is ∙ ap (slice_get design.components) here ∙ is) in
                subst (λ n. IsStepped round frames next' stages' n d) here
                (subst (IsStepped round frames next' stages' node) one done.run.stepped))
          ];
      parts = done.parts ∙ c.loop-node.invariant.parts;
      stages = done.stages ∙ c.loop-node.invariant.stages;
    }

pub returns-clause-run : goal.returns-clause-run
returns-clause-run c =
    λ node d none is.
    c.loop-node.invariant.run node d
    (let within = slice_get_within c.args.round.design.now.components node d is in
    let past = c.loop-node-test.false in
    let same = ap length c.components-node-end.ensures.value in
    omega (arith, within, past, same)) none is
