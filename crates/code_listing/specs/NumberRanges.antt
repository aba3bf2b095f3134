-- The numbers in a listing are numbers of their types: 64 bits with a sign, or 32 bits.
use Rattle.std.specs.Prelude.{ℕ, ◌<◌, ◌^◌, List, zip, All, Option, IsTrue, IfSome}
use Rattle.pals_base.specs.declared.behaviour.VarDecl.{VarDecl}
use Rattle.pals_base.specs.declared.behaviour.StateDecl.{StateDecl}
use Rattle.pals_base.specs.declared.behaviour.BehaviourParts.{BehaviourParts}
use Rattle.pals_base.specs.Arithmetic.{fits}
use Rattle.pals_model.specs.declared.design.Component.{Component}
use Rattle.step_code.specs.declared.instr.Instr.{Instr}
use Rattle.step_code.specs.declared.instr.CodeParts.{CodeParts}
use Rattle.step_code.specs.declared.instr.Instr.TheVariants as instr

-- a slot, a port, a state or a place
abbrev pub NumberFits : ℕ → Type 0
NumberFits n = n < 2 ^ 32

abbrev pub InstrFits : Instr → Type 0
InstrFits (instr.Push n) = IsTrue (fits n)
InstrFits (instr.Load slot) = NumberFits slot
InstrFits (instr.Store slot) = NumberFits slot
InstrFits (instr.Port port) = NumberFits port
InstrFits (instr.Fresh port) = NumberFits port
InstrFits (instr.Jump to) = NumberFits to
InstrFits (instr.JumpZero to) = NumberFits to
InstrFits (instr.LoopStart slot low high exit) =
    NumberFits slot × IsTrue (fits low) × IsTrue (fits high) × NumberFits exit
InstrFits (instr.LoopNext slot high to) = NumberFits slot × IsTrue (fits high) × NumberFits to
InstrFits (instr.Emit port) = NumberFits port
InstrFits (instr.End state) = NumberFits state
InstrFits other = Unit {0}

abbrev pub FirstFits : VarDecl → Type 0
FirstFits v = IsTrue (fits v.first)

abbrev pub EntryFits : Option ℕ → Type 0
EntryFits entry = IfSome entry NumberFits

-- the entries of a behaviour's states
abbrev pub EntriesFit : List StateDecl → List (Option ℕ) → Type 0
EntriesFit states entries = All (λ p. EntryFits p.1) (zip states entries)

pub record CodeFits (b : BehaviourParts) (code : CodeParts) : Type 0 where
  pub loops : NumberFits code.loops
  pub entries : EntriesFit b.states code.entries
  pub instrs : All InstrFits code.instrs

pub record NumbersFit (b : BehaviourParts) (program : CodeParts) : Type 0 where
  pub firsts : All FirstFits b.vars
  pub code : CodeFits b program

-- the numbers of all components with their codes
abbrev pub AllFit : List Component → List CodeParts → Type 0
AllFit components programs = All (λ p. NumbersFit p.0.behaviour p.1) (zip components programs)
