-- The equations of one round have at most one solution: the claim RoundIsOne.
use Rattle.std.proofs.Common.{◌≡◌, ◌∙◌, ℕ, zero, suc, ◌+◌, ◌*◌, ◌<◌, ◌≤◌, Bool, true, false, List, [], ◌∷◌, length, map}
use Rattle.std.proofs.Common.{Option, Some, None, slice_get, slice_index_or, refl, sym, ap, ap₂, arith}
use Rattle.std.specs.Prelude.{if◌then◌else◌}
use Rattle.pals_base.specs.declared.basic_types.PortValue.{PortValue}
use Rattle.pals_base.specs.declared.basic_types.PortValue.TheVariants.{Absent}
use Rattle.pals_base.specs.declared.frames.Frame.{Frame}
use Rattle.pals_base.specs.UpwardNumbers.{upwards}
use Rattle.pals_base.proofs.UpwardNumbers.{map_upwards_same}
use Rattle.pals_model.specs.declared.design.Component.{Component}
use Rattle.pals_model.specs.declared.design.Link.{Link}
use Rattle.pals_model.specs.declared.design.DesignParts.{DesignParts}
use Rattle.pals_model.specs.declared.port_sources.PortSource.{PortSource}
use Rattle.pals_model.specs.declared.port_sources.PortSource.TheVariants as source
use Rattle.pals_model.specs.ComponentInputs.{source_of}
use Rattle.pals_model.specs.Composition.{Configuration}
use Rattle.pals_runs.specs.declared.plant_pairs.Pair.{Pair}
use Rattle.plant_fuse.specs.FusedComposition.{ArePairs, is_to_plant, is_to_controller, Inputs, inputs_to}
use Rattle.plant_fuse.specs.proof.RoundEquations.{frame_at, outputs_from, left_in, left_before_by, brought, link_by}
use Rattle.plant_fuse.specs.proof.RoundEquations.{read_by, round_vector, IsFusedRound}
use Rattle.plant_fuse.specs.proof.FusedLaws.{RoundIsOne}
use Rattle.plant_fuse.proofs.FunctionTables.{get_upwards_same, table_at, table_past, table_same}
use Rattle.plant_fuse.proofs.StepRanks.{is_controller, bump}
use Rattle.plant_fuse.proofs.PairLinkEnds.{forth_is, read_from_target}
use Rattle.plant_fuse.proofs.StepDependencies.{same_output}

-- the position of a step in its round: a controller's follows its plant's
abbrev place_in : List Pair → ℕ → ℕ → ℕ
place_in pairs node step = 2 * step + bump (is_controller pairs node)

bump_most : (b : Bool) → bump b ≤ 1
bump_most true = omega arith
bump_most false = omega arith

-- the inputs agree below a place
record AgreeIn (pairs : List Pair) (m : ℕ) (v w : Inputs) : Type 0 where
  same : (node step : ℕ) → place_in pairs node step < m
      → slice_get (inputs_to v node) step ≡ slice_get (inputs_to w node) step

same_from : (o : Option Component) (frame : Frame) (xs ys : List (List PortValue)) (step : ℕ)
    → ((k : ℕ) → k ≤ step → slice_get xs k ≡ slice_get ys k)
    → slice_index_or (outputs_from o frame xs) step [] ≡ slice_index_or (outputs_from o frame ys) step []
same_from None frame xs ys step same = refl
same_from (Some c) frame xs ys step same = same_output c.behaviour frame xs ys step same

module _ (design : DesignParts) (pairs : List Pair) (values : List PortValue) (before : Configuration)
    (are : ArePairs design pairs) where
  module _ (m : ℕ) (v w : Inputs) (agree : AgreeIn pairs m v w) where
    same_left : (node port step : ℕ) → place_in pairs node step < m
        → left_in design before v node port step ≡ left_in design before w node port step
    same_left node port step low =
        ap (λ (out : List PortValue). slice_index_or out port Absent)
        (same_from (slice_get design.components node) (frame_at before node) (inputs_to v node) (inputs_to w node) step
        (λ k below. agree.same node k (omega (arith, low, below))))

    module _ (node : ℕ) (c : Component) (step : ℕ) (low : place_in pairs node step ≤ m) where
      same_before : (number : ℕ) (link : Link) (j : ℕ) → j ≡ step
          → left_before_by design before (left_in design before v) number link j
          ≡ left_before_by design before (left_in design before w) number link j
      same_before number link zero at = refl
      same_before number link (suc j) at =
          let most = bump_most (is_controller pairs link.source.0) in
          same_left link.source.0 link.out_port j (omega (arith, most, low, at))

      same_if : (number : ℕ) (link : Link) → link.target.0 ≡ node → (back forth : Bool) → is_to_plant pairs link ≡ back
          → is_to_controller pairs link ≡ forth
          → (if back then left_before_by design before (left_in design before v) number link step else if forth then
          left_in design before v link.source.0 link.out_port step else brought design values before c.rate step
          (source.Link number))
          ≡ (if back then left_before_by design before (left_in design before w) number link step else if forth then
          left_in design before w link.source.0 link.out_port step else brought design values before c.rate step
          (source.Link number))
      same_if number link target true forth is_one other = same_before number link step refl
      same_if number link target false true not_one is_one =
          let known = forth_is design pairs are link is_one in
          let none : bump (is_controller pairs link.source.0) ≡ 0 = ap bump known.plant in
          let one : bump (is_controller pairs node) ≡ 1 =
          ap bump (sym (ap (λ n. is_controller pairs n) target) ∙ known.controller) in
          same_left link.source.0 link.out_port step (omega (arith, none, one, low))
      same_if number link target false false not_one nor_other = refl

      same_on : (number : ℕ) (o : Option Link) → ((link : Link) → o ≡ Some link → link.target.0 ≡ node)
          → link_by design pairs values before (left_in design before v) c.rate step number o
          ≡ link_by design pairs values before (left_in design before w) c.rate step number o
      same_on number None target = refl
      same_on number (Some link) target =
          same_if number link (target link refl) (is_to_plant pairs link) (is_to_controller pairs link) refl refl

      same_value : (s : PortSource)
          → ((number : ℕ) (link : Link) → s ≡ source.Link number → slice_get design.links number ≡ Some link
          → link.target.0 ≡ node)
          → read_by design pairs values before (left_in design before v) c.rate step s
          ≡ read_by design pairs values before (left_in design before w) c.rate step s
      same_value source.Nothing target = refl
      same_value (source.Feed feed root) target = refl
      same_value (source.Link number) target =
          same_on number (slice_get design.links number) (λ link there. target number link refl there)

      same_values : (ports : List ℕ)
          → map (read_by design pairs values before (left_in design before v) c.rate step)
          (map (λ port. source_of design node port) ports)
          ≡ map (read_by design pairs values before (left_in design before w) c.rate step)
          (map (λ port. source_of design node port) ports)
      same_values [] = refl
      same_values (port ∷ ports) =
          ap₂ (λ y ys. y ∷ ys) (same_value (source_of design node port)
          (λ number link here there. read_from_target design node port number link here there)) (same_values ports)

      same_vector : round_vector design pairs values before v node c step
          ≡ round_vector design pairs values before w node c step
      same_vector = same_values (upwards 0 (length c.behaviour.ins))

  module _ (v w : Inputs) (is_v : IsFusedRound design pairs values before v)
      (is_w : IsFusedRound design pairs values before w) where
    abbrev row : Inputs → ℕ → Component → List (List PortValue)
    row ins node c = map (round_vector design pairs values before ins node c) (upwards 0 c.rate)

    at_node : (ins : Inputs) → IsFusedRound design pairs values before ins → (node : ℕ) (c : Component)
        → slice_get design.components node ≡ Some c → inputs_to ins node ≡ row ins node c
    at_node ins is node c is_c =
        ap (λ (u : Inputs). inputs_to u node) is
        ∙ table_at (row ins) 0 design.components node node c [] (omega arith) is_c

    past_nodes : (ins : Inputs) → IsFusedRound design pairs values before ins → (node : ℕ)
        → slice_get design.components node ≡ None → inputs_to ins node ≡ []
    past_nodes ins is node is_c =
        ap (λ (u : Inputs). inputs_to u node) is ∙ table_past (row ins) 0 design.components node [] is_c

    next_by : (m : ℕ) → AgreeIn pairs m v w → (node step : ℕ) → place_in pairs node step < suc m
        → (o : Option Component) → slice_get design.components node ≡ o
        → slice_get (inputs_to v node) step ≡ slice_get (inputs_to w node) step
    next_by m agree node step low None is_c =
        ap (λ (xs : List (List PortValue)). slice_get xs step)
        (past_nodes v is_v node is_c ∙ sym (past_nodes w is_w node is_c))
    next_by m agree node step low (Some c) is_c =
        ap (λ (xs : List (List PortValue)). slice_get xs step) (at_node v is_v node c is_c)
        ∙ get_upwards_same (round_vector design pairs values before v node c)
        (round_vector design pairs values before w node c) c.rate step
        (same_vector m v w agree node c step (omega (arith, low)))
        ∙ sym (ap (λ (xs : List (List PortValue)). slice_get xs step) (at_node w is_w node c is_c))

    agree_below : (m : ℕ) → AgreeIn pairs m v w
    agree_below zero = record { same = λ node step low. absurd (omega (arith, low)) }
    agree_below (suc m) =
        record {
          same = λ node step low.
              next_by m (agree_below m) node step low (slice_get design.components node) refl;
        }

    pub one_round : v ≡ w
    one_round =
        is_v
        ∙ table_same (row v) (row w) design.components
        (λ node c is_c.
        map_upwards_same (round_vector design pairs values before v node c)
        (round_vector design pairs values before w node c) 0 c.rate
        (λ step above below. same_vector (place_in pairs node step) v w (agree_below (place_in pairs node step)) node c
        step (omega arith)))
        ∙ sym is_w

pub round_is_one : RoundIsOne
round_is_one design pairs values before vectors other are is_one is_other =
    one_round design pairs values before are vectors other is_one is_other
