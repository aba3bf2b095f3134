use Rattle.std.proofs.Common.{◌≡◌, Some, None, map, sym, ◌∙◌, arith, bytes_eq}
use Rattle.std.specs.Prelude.{position}
use Rattle.std.proofs.lemmas.Grind.{common_steps}
use Rattle.pals_model.specs.declared.design.Feed.{Feed}
use Rattle.scenario_values.proofs.NameSearch.{find_at, find_none, position_map, position_zero}
use Rattle.scenario_values.proofs.design_names.DesignNames.find_feed.Goals as goal

pub returns-in-Some : goal.returns-in-Some
returns-in-Some c =
    let feeds = c.args.self.now.feeds in
    let test = λ (f : Feed). bytes_eq c.args.name.now f.name in
    let found : position (bytes_eq c.args.name.now) (map (λ (f : Feed). f.name) feeds) ≡ Some c.in-Some.number.now =
    grind (arith, common_steps, c.self.invariant.feeds_are c.args.name.now) in
    let at : position test feeds ≡ Some c.in-Some.number.now =
    sym (position_map (λ (f : Feed). f.name) (bytes_eq c.args.name.now) feeds)
    ∙ position_zero (bytes_eq c.args.name.now) (map (λ (f : Feed). f.name) feeds) ∙ found in
    let is = find_at test feeds c.in-Some.number.now at in
    cc (is, c.get-in-Some.ensures, c.parts.ensures.value, c.self.view_is)

pub returns-in-None : goal.returns-in-None
returns-in-None c =
    let feeds = c.args.self.now.feeds in
    let test = λ (f : Feed). bytes_eq c.args.name.now f.name in
    let found : position (bytes_eq c.args.name.now) (map (λ (f : Feed). f.name) feeds) ≡ None =
    grind (arith, common_steps, c.self.invariant.feeds_are c.args.name.now) in
    let at : position test feeds ≡ None =
    sym (position_map (λ (f : Feed). f.name) (bytes_eq c.args.name.now) feeds)
    ∙ position_zero (bytes_eq c.args.name.now) (map (λ (f : Feed). f.name) feeds) ∙ found in
    sym (find_none test feeds at)
