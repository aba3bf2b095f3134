-- For `same_instr`: two instructions with one key are equal.
use Rattle.std.proofs.Common.{◌≡◌, ◌∙◌, refl, sym, ap}
use Rattle.step_code.specs.declared.instr.Instr.{Instr}
use Rattle.step_code.specs.declared.instr.Instr.TheVariants as instr
use Rattle.pals_node.specs.proof.InstructionKeys.{key_of, of_key}

there : (i : Instr) → of_key (key_of i) ≡ i
there (instr.Push low) = refl
there (instr.Load slot) = refl
there (instr.Store slot) = refl
there (instr.Port slot) = refl
there (instr.Fresh slot) = refl
there instr.Neg = refl
there instr.Abs = refl
there instr.Not = refl
there instr.Add = refl
there instr.Sub = refl
there instr.Mul = refl
there instr.Quot = refl
there instr.Mod = refl
there instr.Rem = refl
there instr.Eq = refl
there instr.Ne = refl
there instr.Lt = refl
there instr.Le = refl
there instr.Gt = refl
there instr.Ge = refl
there instr.And = refl
there instr.Or = refl
there instr.Xor = refl
there (instr.Jump place) = refl
there (instr.JumpZero place) = refl
there (instr.LoopStart slot low high place) = refl
there (instr.LoopNext slot high place) = refl
there (instr.Emit slot) = refl
there (instr.End slot) = refl

pub same_key : (a b : Instr) → key_of a ≡ key_of b → a ≡ b
same_key a b same = sym (there a) ∙ ap of_key same ∙ there b
