-- Two keywords or symbols are equal if their numbers are. For `Mark::is`.
use Rattle.std.proofs.Common.{◌≡◌, ℕ, ◌∙◌, sym, ap, refl, List, [], ◌∷◌, get_or}
use denote.Enum.Declared.{tag_of}
use Rattle.aadl_tree.specs.declared.mark.Mark.{Mark}
use Rattle.aadl_tree.specs.declared.mark.Mark.TheVariants as k
use Rattle.aadl_tree.specs.contracts.mark.Mark.{the_type}
use Rattle.aadl_tree.specs.proof.MarkNumbers.{mark_number}

marks : List Mark
marks =
    k.Package ∷ k.Public ∷ k.With ∷ k.End ∷ k.System ∷ k.Process ∷ k.Thread ∷ k.Features ∷ k.Properties
    ∷ k.Implementation ∷ k.Subcomponents ∷
    k.Connections ∷ k.Nothing ∷ k.In ∷ k.Out ∷ k.Data ∷ k.Port ∷ k.Annex ∷ k.Constant ∷ k.Applies ∷ k.To ∷ k.Reference
    ∷ k.Classifier ∷ k.Variables ∷
    k.States ∷ k.Transitions ∷ k.Initial ∷ k.Complete ∷ k.State ∷ k.On ∷ k.Dispatch ∷ k.Otherwise ∷ k.If ∷ k.Elsif
    ∷ k.Else ∷ k.For ∷ k.And ∷ k.Or ∷ k.Xor
    ∷ k.Then ∷ k.Mod ∷ k.Rem ∷ k.Abs ∷ k.Not ∷ k.True ∷ k.False ∷ k.Fresh ∷ k.Semicolon ∷ k.Colon ∷ k.Comma ∷ k.Dot
    ∷ k.Range ∷ k.Scope ∷ k.Becomes ∷
    k.Appends ∷ k.Arrow ∷ k.GuardOpen ∷ k.GuardClose ∷ k.BraceOpen ∷ k.BraceClose ∷ k.ParenOpen ∷ k.ParenClose
    ∷ k.BracketOpen ∷ k.BracketClose ∷ k.Plus ∷
    k.Minus ∷ k.Star ∷ k.Slash ∷ k.Equal ∷ k.NotEqual ∷ k.Less ∷ k.LessOrEqual ∷ k.Greater ∷ k.GreaterOrEqual ∷ k.Assign
    ∷ k.Bang ∷ k.Tick ∷ k.AnnexOpen ∷
    k.AnnexClose ∷ []

mark_of : ℕ → Mark
unfolding marks
mark_of n = get_or marks n k.Package

back : (m : Mark) → mark_of (mark_number m) ≡ m
unfolding mark_of marks
back k.Package = refl
back _ = refl

pub same_number : (m o : Mark) → mark_number m ≡ mark_number o → m ≡ o
same_number m o e = sym (back m) ∙ ap mark_of e ∙ back o

-- the number that the code reads
pub tag : (m : Mark) → tag_of the_type m ≡ mark_number m
tag k.Package = refl
tag _ = refl
