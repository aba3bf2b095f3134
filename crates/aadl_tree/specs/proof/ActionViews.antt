-- The plain trees of actions, their models.
use Rattle.std.specs.Prelude.{ℕ, List, [], ◌∷◌, map, Option, Some, None, option_map}
use Rattle.aadl_tree.specs.declared.actions.Action.TheOpen.{Action-F, Actions-F, Block-F, Choice-F, Elsif-F, Loop-F}
use Rattle.aadl_tree.specs.Actions.{Action, assign, send, choose, loop, Actions, actions, Mores, no_mores, more, Elsifs}
use Rattle.aadl_tree.specs.Actions.{no_elsifs, elsif, Otherwise, no_otherwise, otherwise, Block, no_block, block}
use Rattle.aadl_tree.specs.Expressions.{Expression}
use Rattle.aadl_tree.specs.proof.NameViews.{identifier_view, reference_view}
use Rattle.aadl_tree.specs.proof.ExpressionViews.{expression_view}
use Rattle.aadl_tree.specs.declared.actions.Action as source_action
use Rattle.aadl_tree.specs.declared.actions.Actions as source_actions
use Rattle.aadl_tree.specs.declared.actions.Block as source_block
use Rattle.aadl_tree.specs.declared.actions.Choice as source_choice
use Rattle.aadl_tree.specs.declared.actions.Elsif as source_elsif
use Rattle.aadl_tree.specs.declared.actions.Loop as source_loop

abbrev pub mores_of : {P : Type 0} → List (Action P) → Mores P
mores_of [] = no_mores
mores_of (x ∷ xs) = more x (mores_of xs)

abbrev pub elsifs_of : {P : Type 0} → List (Expression P × Actions P) → Elsifs P
elsifs_of [] = no_elsifs
elsifs_of (x ∷ xs) = elsif x.0 x.1 (elsifs_of xs)

abbrev pub otherwise_of : {P : Type 0} → Option (Actions P) → Otherwise P
otherwise_of None = no_otherwise
otherwise_of (Some x) = otherwise x

abbrev pub block_of : {P : Type 0} → Option (Actions P) → Block P
block_of None = no_block
block_of (Some x) = block x

-- one level of each, whose parts are already plain trees
abbrev pub action_step : {P : Type 0} → (ℕ → P)
    → Action-F (Action P) (Actions P) (Block P) (Action P) (Expression P × Actions P) (Action P) → Action P
action_step place (Action-F.Assign x e) = assign (identifier_view place x) (expression_view place e)
action_step place (Action-F.Send x e) = send (identifier_view place x) (expression_view place e)
action_step place (Action-F.If choice) = choice.value
action_step place (Action-F.For l) = l.value

abbrev pub actions_step : {P : Type 0}
    → Actions-F (Action P) (Actions P) (Block P) (Action P) (Expression P × Actions P) (Action P) → Actions P
actions_step x = actions x.first (mores_of x.rest.items)

abbrev pub block_step : {P : Type 0}
    → Block-F (Action P) (Actions P) (Block P) (Action P) (Expression P × Actions P) (Action P) → Block P
block_step x = block_of (option_map (λ b. b.value) x.actions)

abbrev pub choice_step : {P : Type 0} → (ℕ → P)
    → Choice-F (Action P) (Actions P) (Block P) (Action P) (Expression P × Actions P) (Action P) → Action P
choice_step place x =
    choose (expression_view place x.test) x.actions (elsifs_of x.elsifs.items)
    (otherwise_of (option_map (λ b. b.value) x.otherwise))

abbrev pub elsif_step : {P : Type 0} → (ℕ → P)
    → Elsif-F (Action P) (Actions P) (Block P) (Action P) (Expression P × Actions P) (Action P)
    → Expression P × Actions P
elsif_step place x = (expression_view place x.test, x.actions)

abbrev pub loop_step : {P : Type 0} → (ℕ → P)
    → Loop-F (Action P) (Actions P) (Block P) (Action P) (Expression P × Actions P) (Action P) → Action P
loop_step place x =
    loop (place x.at) (identifier_view place x.variable) (reference_view place x.data_type) x.low x.high x.body

abbrev pub action_view : {P : Type 0} → (ℕ → P) → source_action.Action → Action P
action_view {P} place =
    source_action.fold-Action (Action P) (Actions P) (Block P) (Action P) (Expression P × Actions P) (Action P)
    (action_step place) actions_step block_step (choice_step place) (elsif_step place) (loop_step place)

abbrev pub actions_view : {P : Type 0} → (ℕ → P) → source_actions.Actions → Actions P
actions_view {P} place =
    source_actions.fold-Actions (Action P) (Actions P) (Block P) (Action P) (Expression P × Actions P) (Action P)
    (action_step place) actions_step block_step (choice_step place) (elsif_step place) (loop_step place)

abbrev pub block_view : {P : Type 0} → (ℕ → P) → source_block.Block → Block P
block_view {P} place =
    source_block.fold-Block (Action P) (Actions P) (Block P) (Action P) (Expression P × Actions P) (Action P)
    (action_step place) actions_step block_step (choice_step place) (elsif_step place) (loop_step place)

abbrev pub choice_view : {P : Type 0} → (ℕ → P) → source_choice.Choice → Action P
choice_view {P} place =
    source_choice.fold-Choice (Action P) (Actions P) (Block P) (Action P) (Expression P × Actions P) (Action P)
    (action_step place) actions_step block_step (choice_step place) (elsif_step place) (loop_step place)

abbrev pub loop_view : {P : Type 0} → (ℕ → P) → source_loop.Loop → Action P
loop_view {P} place =
    source_loop.fold-Loop (Action P) (Actions P) (Block P) (Action P) (Expression P × Actions P) (Action P)
    (action_step place) actions_step block_step (choice_step place) (elsif_step place) (loop_step place)

abbrev pub mores_view : {P : Type 0} → (ℕ → P) → List source_action.Action → Mores P
mores_view place xs = mores_of (map (action_view place) xs)

abbrev pub elsif_view : {P : Type 0} → (ℕ → P) → source_elsif.Elsif → Expression P × Actions P
elsif_view {P} place =
    source_elsif.fold-Elsif (Action P) (Actions P) (Block P) (Action P) (Expression P × Actions P) (Action P)
    (action_step place) actions_step block_step (choice_step place) (elsif_step place) (loop_step place)

abbrev pub elsifs_view : {P : Type 0} → (ℕ → P) → List source_elsif.Elsif → Elsifs P
elsifs_view place [] = no_elsifs
elsifs_view place (x ∷ xs) = elsif (expression_view place x.test) (actions_view place x.actions) (elsifs_view place xs)
