-- The variant of an action is determined by its plain action: an assignment, a send, a choice or a loop. For the
-- comparison of actions.
use Rattle.std.proofs.Common.{◌≡◌, ◌∙◌, ap, sym, Box, Global}
use Rattle.aadl_tree.specs.declared.names.Identifier.{Identifier}
use Rattle.aadl_tree.specs.declared.expressions.Expression.{Expression}
use Rattle.aadl_tree.specs.declared.actions.Action.{Action, Assign, Send, If, For}
use Rattle.aadl_tree.specs.declared.actions.Action.TheOpen.{Action-F}
use Rattle.aadl_tree.specs.declared.actions.Action.TheViews.{out-Action, roll-Action, roll-out-Action}
use Rattle.aadl_tree.specs.declared.actions.Action.TheVariants.{rolls-Assign, rolls-Send, rolls-If, rolls-For}
use Rattle.aadl_tree.specs.declared.actions.Actions.{Actions}
use Rattle.aadl_tree.specs.declared.actions.Block.{Block}
use Rattle.aadl_tree.specs.declared.actions.Choice.{Choice}
use Rattle.aadl_tree.specs.declared.actions.Elsif.{Elsif}
use Rattle.aadl_tree.specs.declared.actions.Loop.{Loop}
use Rattle.aadl_tree.specs.Actions as plain
use Rattle.aadl_tree.specs.Actions.{assign, send, choose, loop}
use Rattle.aadl_tree.specs.proof.ActionViews.{action_view}
use Rattle.aadl_tree.specs.proof.PlaceMaps.{no_place}
use Rattle.aadl_tree.proofs.ActionViews.{view-Assign, view-Send, view-If, view-For, view-out-choice, view-out-loop}

abbrev Level : Type 0
Level = Action-F Action Actions Block Choice Elsif Loop

abbrev view : Action → plain.Action (Unit {0})
view x = action_view no_place x

abbrev IsAssign : Action → Type 0
IsAssign a = (x : Identifier) × (e : Expression) × (a ≡ Assign x e)

assign_layer : (a : Action) (layer : Level) (name : _) (value : _) → a ≡ roll-Action layer → view a ≡ assign name value
    → IsAssign a
assign_layer a (Action-F.Assign x e) name value is same = (x, e, is ∙ rolls-Assign x e)
assign_layer a (Action-F.Send x e) name value is same = let f = ap view (is ∙ rolls-Send x e)
    ∙ (view-Send no_place x e) in absurd cc
assign_layer a (Action-F.If y) name value is same = let f = ap view (is ∙ rolls-If y)
    ∙ (view-If no_place y ∙ view-out-choice no_place y.value) in absurd cc
assign_layer a (Action-F.For y) name value is same = let f = ap view (is ∙ rolls-For y)
    ∙ (view-For no_place y ∙ view-out-loop no_place y.value) in absurd cc

pub only_assign : (a : Action) (name : _) (value : _) → view a ≡ assign name value → IsAssign a
only_assign a name value e = assign_layer a (out-Action a) name value (sym (roll-out-Action a)) e

abbrev IsSend : Action → Type 0
IsSend a = (x : Identifier) × (e : Expression) × (a ≡ Send x e)

send_layer : (a : Action) (layer : Level) (name : _) (value : _) → a ≡ roll-Action layer
    → view a ≡ send name value → IsSend a
send_layer a (Action-F.Assign x e) name value is same = let f = ap view (is ∙ rolls-Assign x e)
    ∙ (view-Assign no_place x e) in absurd cc
send_layer a (Action-F.Send x e) name value is same = (x, e, is ∙ rolls-Send x e)
send_layer a (Action-F.If y) name value is same = let f = ap view (is ∙ rolls-If y)
    ∙ (view-If no_place y ∙ view-out-choice no_place y.value) in absurd cc
send_layer a (Action-F.For y) name value is same = let f = ap view (is ∙ rolls-For y)
    ∙ (view-For no_place y ∙ view-out-loop no_place y.value) in absurd cc

pub only_send : (a : Action) (name : _) (value : _) → view a ≡ send name value → IsSend a
only_send a name value e = send_layer a (out-Action a) name value (sym (roll-out-Action a)) e

abbrev IsIf : Action → Type 0
IsIf a = (y : Box Choice Global) × (a ≡ If y)

choose_layer : (a : Action) (layer : Level) (test : _) (first : _) (es : _) (o : _) → a ≡ roll-Action layer
    → view a ≡ choose test first es o → IsIf a
choose_layer a (Action-F.Assign x e) test first es o is same = let f = ap view (is ∙ rolls-Assign x e)
    ∙ (view-Assign no_place x e) in absurd cc
choose_layer a (Action-F.Send x e) test first es o is same = let f = ap view (is ∙ rolls-Send x e)
    ∙ (view-Send no_place x e) in absurd cc
choose_layer a (Action-F.If y) test first es o is same = (y, is ∙ rolls-If y)
choose_layer a (Action-F.For y) test first es o is same = let f = ap view (is ∙ rolls-For y)
    ∙ (view-For no_place y ∙ view-out-loop no_place y.value) in absurd cc

pub only_choose : (a : Action) (test : _) (first : _) (es : _) (o : _) → view a ≡ choose test first es o → IsIf a
only_choose a test first es o e = choose_layer a (out-Action a) test first es o (sym (roll-out-Action a)) e

abbrev IsFor : Action → Type 0
IsFor a = (y : Box Loop Global) × (a ≡ For y)

loop_layer : (a : Action) (layer : Level) (at : _) (name : _) (type : _) (low high : _) (body : _)
    → a ≡ roll-Action layer → view a ≡ loop at name type low high body → IsFor a
loop_layer a (Action-F.Assign x e) at name type low high body is same = let f = ap view (is ∙ rolls-Assign x e)
    ∙ (view-Assign no_place x e) in absurd cc
loop_layer a (Action-F.Send x e) at name type low high body is same = let f = ap view (is ∙ rolls-Send x e)
    ∙ (view-Send no_place x e) in absurd cc
loop_layer a (Action-F.If y) at name type low high body is same = let f = ap view (is ∙ rolls-If y)
    ∙ (view-If no_place y ∙ view-out-choice no_place y.value) in absurd cc
loop_layer a (Action-F.For y) at name type low high body is same = (y, is ∙ rolls-For y)

pub only_loop : (a : Action) (at : _) (name : _) (type : _) (low high : _) (body : _)
    → view a ≡ loop at name type low high body → IsFor a
only_loop a at name type low high body e =
    loop_layer a (out-Action a) at name type low high body (sym (roll-out-Action a)) e
