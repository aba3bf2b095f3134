-- An instruction as its kind and its numbers, by which two are told apart.
use Rattle.std.specs.Prelude.{ℕ, ℤ, pos, List, [], ◌∷◌, slice_index_or}
use Rattle.step_code.specs.declared.instr.Instr.{Instr}
use Rattle.pals_node.specs.declared.instruction_key.Key.{Key}
use Rattle.step_code.specs.declared.instr.Instr.TheVariants as instr

-- a slot, a port or a state; a place; and two numbers
abbrev key : ℕ → ℕ → ℕ → ℤ → ℤ → Key
key kind slot place low high = record { kind = kind; slot = slot; place = place; low = low; high = high }

abbrev pub key_of : Instr → Key
key_of (instr.Push low) = key 0 0 0 low (pos 0)
key_of (instr.Load slot) = key 1 slot 0 (pos 0) (pos 0)
key_of (instr.Store slot) = key 2 slot 0 (pos 0) (pos 0)
key_of (instr.Port slot) = key 3 slot 0 (pos 0) (pos 0)
key_of (instr.Fresh slot) = key 4 slot 0 (pos 0) (pos 0)
key_of instr.Neg = key 5 0 0 (pos 0) (pos 0)
key_of instr.Abs = key 6 0 0 (pos 0) (pos 0)
key_of instr.Not = key 7 0 0 (pos 0) (pos 0)
key_of instr.Add = key 8 0 0 (pos 0) (pos 0)
key_of instr.Sub = key 9 0 0 (pos 0) (pos 0)
key_of instr.Mul = key 10 0 0 (pos 0) (pos 0)
key_of instr.Quot = key 11 0 0 (pos 0) (pos 0)
key_of instr.Mod = key 12 0 0 (pos 0) (pos 0)
key_of instr.Rem = key 13 0 0 (pos 0) (pos 0)
key_of instr.Eq = key 14 0 0 (pos 0) (pos 0)
key_of instr.Ne = key 15 0 0 (pos 0) (pos 0)
key_of instr.Lt = key 16 0 0 (pos 0) (pos 0)
key_of instr.Le = key 17 0 0 (pos 0) (pos 0)
key_of instr.Gt = key 18 0 0 (pos 0) (pos 0)
key_of instr.Ge = key 19 0 0 (pos 0) (pos 0)
key_of instr.And = key 20 0 0 (pos 0) (pos 0)
key_of instr.Or = key 21 0 0 (pos 0) (pos 0)
key_of instr.Xor = key 22 0 0 (pos 0) (pos 0)
key_of (instr.Jump place) = key 23 0 place (pos 0) (pos 0)
key_of (instr.JumpZero place) = key 24 0 place (pos 0) (pos 0)
key_of (instr.LoopStart slot low high place) = key 25 slot place low high
key_of (instr.LoopNext slot high place) = key 26 slot place (pos 0) high
key_of (instr.Emit slot) = key 27 slot 0 (pos 0) (pos 0)
key_of (instr.End slot) = key 28 slot 0 (pos 0) (pos 0)

-- the instructions of each kind with the numbers of a key
abbrev pub of_kinds : Key → List Instr
of_kinds k =
    instr.Push k.low
    ∷ instr.Load k.slot
    ∷ instr.Store k.slot
    ∷ instr.Port k.slot
    ∷ instr.Fresh k.slot
    ∷ instr.Neg
    ∷ instr.Abs
    ∷ instr.Not
    ∷ instr.Add
    ∷ instr.Sub
    ∷ instr.Mul
    ∷ instr.Quot
    ∷ instr.Mod
    ∷ instr.Rem
    ∷ instr.Eq
    ∷ instr.Ne
    ∷ instr.Lt
    ∷ instr.Le
    ∷ instr.Gt
    ∷ instr.Ge
    ∷ instr.And
    ∷ instr.Or
    ∷ instr.Xor
    ∷ instr.Jump k.place
    ∷ instr.JumpZero k.place
    ∷ instr.LoopStart k.slot k.low k.high k.place
    ∷ instr.LoopNext k.slot k.high k.place
    ∷ instr.Emit k.slot
    ∷ instr.End k.slot
    ∷ []

abbrev pub of_key : Key → Instr
of_key k = slice_index_or (of_kinds k) k.kind instr.Neg
