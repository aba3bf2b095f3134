use Rattle.std.proofs.Common.{◌∙◌, inl, inr, nat_eq, refl, sym}
use Rattle.std.proofs.lemmas.Bool.{true≢false, eqb-true}
use Rattle.indexmap.proofs.CallerLemmas.{Contains-list_any}
use Rattle.std.proofs.lemmas.Result.{on_ok_weaker}
use Rattle.list_lemmas.proofs.Elements.{list_any_by_number}
use Rattle.aadl_chains.proofs.ports_joined_outside.lead_if_used.Goals as goal

pub lead_each-requires-clause-used : goal.lead_each-requires-clause-used
lead_each-requires-clause-used c =
    (c.requires.used c.args.number).0
    (Contains-list_any nat_eq eqb-true c.args.used.now.keys c.args.number
    (sym c.contains.ensures ∙ c.if-contains.true))

pub returns-then-contains : goal.returns-then-contains
returns-then-contains c =
    on_ok_weaker c.lead_each.result
    (λ led. inl (
      (c.requires.used c.args.number).0
          (Contains-list_any nat_eq eqb-true c.args.used.now.keys c.args.number
          (sym c.contains.ensures ∙ c.if-contains.true)),
      led,
    ))
    c.lead_each.ensures

pub returns-else-contains : goal.returns-else-contains
returns-else-contains c =
    inr (
      (λ u. true≢false (sym (list_any_by_number c.args.used.now.keys c.args.number
          ((c.requires.used c.args.number).1 u))
          ∙ (sym c.contains.ensures ∙ c.if-contains.false))),
      refl,
    )
