-- The law that two designs with one listing agree in everything that nodes need to run: the period, bounds,
-- components, codes, links, feeds and taps.
use Rattle.std.specs.Prelude.{◌≡◌, ℕ, List, length, map, zip, All}
use Rattle.pals_base.specs.declared.period_bound_and_releases.Gamma.{Gamma}
use Rattle.pals_base.specs.declared.behaviour.PortDecl.{PortDecl}
use Rattle.pals_base.specs.declared.behaviour.VarDecl.{VarDecl}
use Rattle.pals_base.specs.declared.behaviour.StateDecl.{StateDecl}
use Rattle.pals_base.specs.declared.behaviour.BehaviourParts.{BehaviourParts}
use Rattle.pals_model.specs.declared.design.Component.{Component}
use Rattle.pals_model.specs.declared.design.Link.{Link}
use Rattle.pals_model.specs.declared.design.Feed.{Feed}
use Rattle.pals_model.specs.declared.design.Tap.{Tap}
use Rattle.pals_model.specs.declared.design.DesignParts.{DesignParts}
use Rattle.pals_model.specs.DesignRules.{IsDesign}
use Rattle.step_code.specs.declared.instr.CodeParts.{CodeParts}
use Rattle.code_listing.specs.Listings.{listing}
use Rattle.code_listing.specs.NumberRanges.{AllFit}

-- ---- the parts that a listing determines
-- a component: its path and rate, its ports and variables, the names of its states, the number of the initial one,
-- and its code
pub record ToldComponent : Type 0 where
  pub path : List ℕ
  pub rate : ℕ
  pub ins : List PortDecl
  pub outs : List PortDecl
  pub vars : List VarDecl
  pub states : List (List ℕ)
  pub initial : ℕ
  pub code : CodeParts

abbrev pub state_names : List StateDecl → List (List ℕ)
state_names states = map (λ (s : StateDecl). s.name) states

abbrev pub told_component : Component → CodeParts → ToldComponent
told_component c code = record {
  path = c.path;
  rate = c.rate;
  ins = c.behaviour.ins;
  outs = c.behaviour.outs;
  vars = c.behaviour.vars;
  states = state_names c.behaviour.states;
  initial = c.behaviour.initial;
  code = code;
}

abbrev pub told_components : List Component → List CodeParts → List ToldComponent
told_components components programs = map (λ p. told_component p.0 p.1) (zip components programs)

-- a design: its period and bounds, its components with their codes, its links, feeds and taps
pub record ToldDesign : Type 0 where
  pub period : ℕ
  pub gamma : Gamma
  pub components : List ToldComponent
  pub links : List Link
  pub feeds : List Feed
  pub taps : List Tap

abbrev pub told_design : DesignParts → List CodeParts → ToldDesign
told_design design programs = record {
  period = design.period;
  gamma = design.gamma;
  components = told_components design.components programs;
  links = design.links;
  feeds = design.feeds;
  taps = design.taps;
}

-- ---- for which designs and codes
-- the code has as many variables and ports as the behaviour, and an optional entry for each of its states
pub record IsCodeOf (b : BehaviourParts) (code : CodeParts) : Type 0 where
  pub vars : code.vars ≡ length b.vars
  pub ins : code.ins ≡ length b.ins
  pub outs : code.outs ≡ length b.outs
  pub states : length code.entries ≡ length b.states

-- a design with a code for each component, whose numbers fit their types
pub record AreListed (design : DesignParts) (programs : List CodeParts) : Type 0 where
  pub rules : IsDesign design
  pub count : length programs ≡ length design.components
  pub each : All (λ p. IsCodeOf p.0.behaviour p.1) (zip design.components programs)
  pub fit : AllFit design.components programs

-- ---- the law
-- two designs with one listing have the same parts
abbrev pub ListingTells : Type 0
ListingTells =
    (design other : DesignParts) (programs others : List CodeParts) → AreListed design programs → AreListed other others
    → listing design programs ≡ listing other others → told_design design programs ≡ told_design other others
