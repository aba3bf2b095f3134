-- The bit of each subformula: its value on the frames of a round, and in the next round from the stored bits.
use Rattle.std.specs.Prelude.{◌≡◌, ℕ, nat_eq, Bool, false, not, ◌&&◌, ◌||◌, is_some, if◌then◌else◌, List, map, Some}
use Rattle.std.specs.Prelude.{slice_get, slice_index_or}
use Rattle.pals_base.specs.declared.frames.Frame.{Frame}
use Rattle.pals_model.specs.declared.part.Part.{Part}
use Rattle.run_monitor.specs.FormulaSemantics.{frame_in, variable_in, compares}
use Rattle.run_monitor.specs.declared.flat_form.FlatForm.{FlatForm}
use Rattle.run_monitor.specs.declared.flat_form.FlatForm.TheVariants as flat

abbrev pub bit_at : List Bool → ℕ → Bool
bit_at bits k = slice_index_or bits k false

-- ---- one frame
-- the value of a subformula on a frame of a component, if it reads that component; else the bit from before
abbrev pub seen_bit : FlatForm → ℕ → Frame → Bool → Bool
seen_bit (flat.Var of variable op number) node frame before =
    if nat_eq of.0 node then compares op (variable_in frame variable) number else before
seen_bit (flat.Halted of) node frame before = if nat_eq of.0 node then is_some frame.halt else before
seen_bit e node frame before = before

-- ---- the frames of all components
abbrev pub row_of : List Part → List Frame
row_of parts = map (λ (p : Part). p.frame) parts

-- its value on the frames, if it reads a component; else the bit from before
abbrev pub row_bit : FlatForm → List Frame → Bool → Bool
row_bit (flat.Var of variable op number) row before = compares op (variable_in (frame_in row of.0) variable) number
row_bit (flat.Halted of) row before = is_some (frame_in row of.0).halt
row_bit e row before = before

-- ---- the next round
-- the bit of a subformula in the next round: from the stored bits, and the new bits of its parts
abbrev pub next_bit : FlatForm → ℕ → Bool → List Bool → List Bool → Bool → Bool
next_bit (flat.Var node variable op number) k begun kept now own = own
next_bit (flat.Halted node) k begun kept now own = own
next_bit (flat.Not f) k begun kept now own = not (bit_at now f)
next_bit (flat.And f g) k begun kept now own = bit_at now f && bit_at now g
next_bit (flat.Or f g) k begun kept now own = bit_at now f || bit_at now g
next_bit (flat.Previous f) k begun kept now own = begun && bit_at kept f
next_bit (flat.Once f) k begun kept now own = (begun && bit_at kept k) || bit_at now f
next_bit (flat.Historically f) k begun kept now own = (not begun || bit_at kept k) && bit_at now f
next_bit (flat.Since f g) k begun kept now own = ((begun && bit_at kept k) && bit_at now f) || bit_at now g

-- ---- all bits
abbrev pub AreSeen : List FlatForm → ℕ → Frame → List Bool → List Bool → Type 0
AreSeen es node frame old new =
    (k : ℕ) (e : FlatForm) → slice_get es k ≡ Some e → bit_at new k ≡ seen_bit e node frame (bit_at old k)

abbrev pub AreOfRow : List FlatForm → List Frame → List Bool → List Bool → Type 0
AreOfRow es row old new = (k : ℕ) (e : FlatForm) → slice_get es k ≡ Some e → bit_at new k ≡ row_bit e row (bit_at old k)

abbrev pub AreNext : List FlatForm → Bool → List Bool → List Bool → List Bool → Type 0
AreNext es begun kept old new =
    (k : ℕ) (e : FlatForm) → slice_get es k ≡ Some e → bit_at new k ≡ next_bit e k begun kept new (bit_at old k)
