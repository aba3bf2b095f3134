use Rattle.std.proofs.Common.{◌∙◌, ap, sym, eq-eqb}
use Rattle.std.proofs.lemmas.Bool.{eqb-true}
use denote.Enum.Declared.{tag_of}
use Rattle.aadl_tree.specs.contracts.mark.Mark.{the_type}
use Rattle.aadl_tree.proofs.MarkNumbers.{tag, same_number}
use Rattle.aadl_tree.proofs.mark.Mark.is.Goals as goal

pub returns : goal.returns
returns c = (
  λ yes. same_number c.args.self c.args.other (sym (tag c.args.self) ∙ eqb-true _ _ yes ∙ tag c.args.other),
  λ same. eq-eqb _ _ (ap (tag_of the_type) same),
)
