use Rattle.std.proofs.Common.{◌∙◌, sym, ap, ap₂}
use Rattle.std.proofs.lemmas.Bool.{or_left, or_right}
use Rattle.pals_runs.specs.declared.forms.Form.{Form}
use Rattle.pals_runs.specs.Formula.{Not, And, Or, Previous, Once, Historically, Since}
use Rattle.pals_runs.specs.proof.FormulasOfForms.{formula_of}
use Rattle.pals_runs.specs.proof.ComponentsInFormulas.{names}
use Rattle.run_monitor.proofs.FlatForms.{over_one, KeepsBoth, over_two}
use Rattle.run_monitor.proofs.flat_form.+add.Goals as goal

pub returns-in_ok-part-in-Not : goal.returns-in_ok-part-in-Not
returns-in_ok-part-in-Not t c =
    let f = formula_of c.deref.result.now in
    let is = ap formula_of c.in-Not.is ∙ ap (λ (x : Form). Not (formula_of x)) (sym c.deref.ensures) in
    over_one c.push-in-Not.result c.args.forms.now c.add.new.forms c.push-in-Not.new.forms c.in_ok-part-in-Not.part Not
    f (formula_of c.args.form.now) is
    (λ x node named. named) c.in_ok-part-in-Not.ensures c.push-in-Not.ensures

pub returns-in_ok-part-in-Previous : goal.returns-in_ok-part-in-Previous
returns-in_ok-part-in-Previous t c =
    let f = formula_of c.deref-in-Previous.result.now in
    let is =
    ap formula_of c.in-Previous.is ∙ ap (λ (x : Form). Previous (formula_of x)) (sym c.deref-in-Previous.ensures) in
    over_one c.push-in-Previous.result c.args.forms.now c.add-in-Previous.new.forms c.push-in-Previous.new.forms
    c.in_ok-part-in-Previous.part Previous f (formula_of c.args.form.now) is
    (λ x node named. named) c.in_ok-part-in-Previous.ensures c.push-in-Previous.ensures

pub returns-in_ok-part-in-Once : goal.returns-in_ok-part-in-Once
returns-in_ok-part-in-Once t c =
    let f = formula_of c.deref-in-Once.result.now in
    let is = ap formula_of c.in-Once.is ∙ ap (λ (x : Form). Once (formula_of x)) (sym c.deref-in-Once.ensures) in
    over_one c.push-in-Once.result c.args.forms.now c.add-in-Once.new.forms c.push-in-Once.new.forms
    c.in_ok-part-in-Once.part Once f (formula_of c.args.form.now) is
    (λ x node named. named) c.in_ok-part-in-Once.ensures c.push-in-Once.ensures

pub returns-in_ok-part-in-Historically : goal.returns-in_ok-part-in-Historically
returns-in_ok-part-in-Historically t c =
    let f = formula_of c.deref-in-Historically.result.now in
    let is =
    ap formula_of c.in-Historically.is
    ∙ ap (λ (x : Form). Historically (formula_of x)) (sym c.deref-in-Historically.ensures) in
    over_one c.push-in-Historically.result c.args.forms.now c.add-in-Historically.new.forms
    c.push-in-Historically.new.forms c.in_ok-part-in-Historically.part Historically f
    (formula_of c.args.form.now) is
    (λ x node named. named) c.in_ok-part-in-Historically.ensures c.push-in-Historically.ensures

pub returns-in_ok-right-in-And : goal.returns-in_ok-right-in-And
returns-in_ok-right-in-And t c =
    let f = formula_of c.deref-in-And.result.now in
    let g = formula_of c.deref-in-And-2.result.now in
    let is =
    ap formula_of c.in-And.is
    ∙ ap₂ (λ (x y : Form). And (formula_of x) (formula_of y)) (sym c.deref-in-And.ensures)
    (sym c.deref-in-And-2.ensures) in
    let keeps : KeepsBoth And = (
      λ x y node is. or_left (names x node) (names y node) is,
      λ x y node is. or_right (names x node) (names y node) is,
    ) in
    over_two c.push-in-And.result c.args.forms.now c.add-in-And.new.forms c.add-in-And-2.new.forms
    c.push-in-And.new.forms
    c.in_ok-left-in-And.left c.in_ok-right-in-And.right And f g (formula_of c.args.form.now) is keeps
    c.in_ok-left-in-And.ensures c.in_ok-right-in-And.ensures c.push-in-And.ensures

pub returns-in_ok-right-in-Or : goal.returns-in_ok-right-in-Or
returns-in_ok-right-in-Or t c =
    let f = formula_of c.deref-in-Or.result.now in
    let g = formula_of c.deref-in-Or-2.result.now in
    let is =
    ap formula_of c.in-Or.is
    ∙ ap₂ (λ (x y : Form). Or (formula_of x) (formula_of y)) (sym c.deref-in-Or.ensures)
    (sym c.deref-in-Or-2.ensures) in
    let keeps : KeepsBoth Or = (
      λ x y node is. or_left (names x node) (names y node) is,
      λ x y node is. or_right (names x node) (names y node) is,
    ) in
    over_two c.push-in-Or.result c.args.forms.now c.add-in-Or.new.forms c.add-in-Or-2.new.forms c.push-in-Or.new.forms
    c.in_ok-left-in-Or.left c.in_ok-right-in-Or.right Or f g (formula_of c.args.form.now) is keeps
    c.in_ok-left-in-Or.ensures c.in_ok-right-in-Or.ensures c.push-in-Or.ensures

pub returns-in_ok-right-in-Since : goal.returns-in_ok-right-in-Since
returns-in_ok-right-in-Since t c =
    let f = formula_of c.deref-in-Since.result.now in
    let g = formula_of c.deref-in-Since-2.result.now in
    let is =
    ap formula_of c.in-Since.is
    ∙ ap₂ (λ (x y : Form). Since (formula_of x) (formula_of y)) (sym c.deref-in-Since.ensures)
    (sym c.deref-in-Since-2.ensures) in
    let keeps : KeepsBoth Since = (
      λ x y node is. or_left (names x node) (names y node) is,
      λ x y node is. or_right (names x node) (names y node) is,
    ) in
    over_two c.push-in-Since.result c.args.forms.now c.add-in-Since.new.forms c.add-in-Since-2.new.forms
    c.push-in-Since.new.forms
    c.in_ok-left-in-Since.left c.in_ok-right-in-Since.right Since f g (formula_of c.args.form.now) is keeps
    c.in_ok-left-in-Since.ensures c.in_ok-right-in-Since.ensures c.push-in-Since.ensures
