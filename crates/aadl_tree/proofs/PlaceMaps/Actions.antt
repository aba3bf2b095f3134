-- Actions: mapping the places of the plain tree gives the plain tree with mapped places. For the law that places can
-- be dropped.
use Rattle.std.proofs.Common.{◌≡◌, ℕ, ◌∙◌, ap, ap₂, sym, subst, refl, List, [], ◌∷◌, map, Option, Some, None, Box}
use Rattle.std.proofs.Common.{Global}
use Rattle.aadl_tree.specs.declared.actions.Action.{Action}
use Rattle.aadl_tree.specs.declared.actions.Actions.{Actions}
use Rattle.aadl_tree.specs.declared.actions.Block.{Block}
use Rattle.aadl_tree.specs.declared.actions.Choice.{Choice}
use Rattle.aadl_tree.specs.declared.actions.Elsif.{Elsif}
use Rattle.aadl_tree.specs.declared.actions.Loop.{Loop}
use Rattle.aadl_tree.specs.declared.actions.Action.TheOpen.{Action-F, Actions-F, Block-F, Choice-F, Elsif-F, Loop-F}
use Rattle.aadl_tree.specs.declared.actions.Action.TheViews.{roll-Action, roll-Actions, roll-Block, roll-Choice}
use Rattle.aadl_tree.specs.declared.actions.Action.TheViews.{roll-Elsif, roll-Loop}
use Rattle.aadl_tree.specs.declared.actions.Action.TheFolds.{ind-Block, map-Action, map-Actions, map-Block, map-Choice}
use Rattle.aadl_tree.specs.declared.actions.Action.TheFolds.{map-Elsif, map-Loop, fold-roll-Action, fold-roll-Actions}
use Rattle.aadl_tree.specs.declared.actions.Action.TheFolds.{fold-roll-Block, fold-roll-Choice, fold-roll-Elsif}
use Rattle.aadl_tree.specs.declared.actions.Action.TheFolds.{fold-roll-Loop}
use Rattle.aadl_tree.specs.Expressions as e
use Rattle.aadl_tree.specs.Actions as a
use Rattle.aadl_tree.specs.proof.PlaceMaps.{expression_to, action_to, actions_to, mores_to, elsifs_to, block_to}
use Rattle.aadl_tree.specs.proof.NameViews.{identifier_view}
use Rattle.aadl_tree.specs.proof.ExpressionViews.{expression_view}
use Rattle.aadl_tree.specs.proof.ActionViews.{mores_of, elsifs_of, action_step, actions_step, block_step, choice_step}
use Rattle.aadl_tree.specs.proof.ActionViews.{elsif_step, loop_step, action_view, actions_view, block_view, choice_view}
use Rattle.aadl_tree.specs.proof.ActionViews.{elsif_view, loop_view}
use Rattle.aadl_tree.proofs.PlaceMaps.Names.{reference_tied}
use Rattle.aadl_tree.proofs.PlaceMaps.Expressions.{expression_tied}

abbrev pair_to : {P Q : Type 0} → (P → Q) → e.Expression P × a.Actions P → e.Expression Q × a.Actions Q
pair_to f x = (expression_to f x.0, actions_to f x.1)

abbrev ActionTied : {P Q : Type 0} → (P → Q) → (ℕ → P) → Action → Type 0
ActionTied f g x = action_to f (action_view g x) ≡ action_view (λ n. f (g n)) x

abbrev ActionsTied : {P Q : Type 0} → (P → Q) → (ℕ → P) → Actions → Type 0
ActionsTied f g x = actions_to f (actions_view g x) ≡ actions_view (λ n. f (g n)) x

abbrev BlockTied : {P Q : Type 0} → (P → Q) → (ℕ → P) → Block → Type 0
BlockTied f g x = block_to f (block_view g x) ≡ block_view (λ n. f (g n)) x

abbrev ChoiceTied : {P Q : Type 0} → (P → Q) → (ℕ → P) → Choice → Type 0
ChoiceTied f g x = action_to f (choice_view g x) ≡ choice_view (λ n. f (g n)) x

abbrev ElsifTied : {P Q : Type 0} → (P → Q) → (ℕ → P) → Elsif → Type 0
ElsifTied f g x = pair_to f (elsif_view g x) ≡ elsif_view (λ n. f (g n)) x

abbrev LoopTied : {P Q : Type 0} → (P → Q) → (ℕ → P) → Loop → Type 0
LoopTied f g x = action_to f (loop_view g x) ≡ loop_view (λ n. f (g n)) x

-- a tree with the proof that mapping its places commutes with the view
abbrev AAction : {P Q : Type 0} → (P → Q) → (ℕ → P) → Type 0
AAction f g = (x : Action) × ActionTied f g x

abbrev AActions : {P Q : Type 0} → (P → Q) → (ℕ → P) → Type 0
AActions f g = (x : Actions) × ActionsTied f g x

abbrev ABlock : {P Q : Type 0} → (P → Q) → (ℕ → P) → Type 0
ABlock f g = (x : Block) × BlockTied f g x

abbrev AChoice : {P Q : Type 0} → (P → Q) → (ℕ → P) → Type 0
AChoice f g = (x : Choice) × ChoiceTied f g x

abbrev AElsif : {P Q : Type 0} → (P → Q) → (ℕ → P) → Type 0
AElsif f g = (x : Elsif) × ElsifTied f g x

abbrev ALoop : {P Q : Type 0} → (P → Q) → (ℕ → P) → Type 0
ALoop f g = (x : Loop) × LoopTied f g x

abbrev action_layer : {P Q : Type 0} (f : P → Q) (g : ℕ → P)
    → Action-F (AAction f g) (AActions f g) (ABlock f g) (AChoice f g) (AElsif f g) (ALoop f g)
    → Action-F Action Actions Block Choice Elsif Loop
action_layer f g y =
    map-Action (AAction f g) (AActions f g) (ABlock f g) (AChoice f g) (AElsif f g) (ALoop f g) Action Actions Block
    Choice Elsif Loop (λ u. u.0) (λ u. u.0) (λ u. u.0) (λ u. u.0) (λ u. u.0) (λ u. u.0) y

abbrev seen_action : {P : Type 0} → (ℕ → P) → Action-F Action Actions Block Choice Elsif Loop
    → Action-F (a.Action P) (a.Actions P) (a.Block P) (a.Action P) (e.Expression P × a.Actions P) (a.Action P)
seen_action {P} g x =
    map-Action Action Actions Block Choice Elsif Loop (a.Action P) (a.Actions P) (a.Block P) (a.Action P)
    (e.Expression P × a.Actions P) (a.Action P) (action_view g) (actions_view g) (block_view g) (choice_view g)
    (elsif_view g) (loop_view g) x

abbrev actions_layer : {P Q : Type 0} (f : P → Q) (g : ℕ → P)
    → Actions-F (AAction f g) (AActions f g) (ABlock f g) (AChoice f g) (AElsif f g) (ALoop f g)
    → Actions-F Action Actions Block Choice Elsif Loop
actions_layer f g y =
    map-Actions (AAction f g) (AActions f g) (ABlock f g) (AChoice f g) (AElsif f g) (ALoop f g) Action Actions Block
    Choice Elsif Loop (λ u. u.0) (λ u. u.0) (λ u. u.0) (λ u. u.0) (λ u. u.0) (λ u. u.0) y

abbrev seen_actions : {P : Type 0} → (ℕ → P) → Actions-F Action Actions Block Choice Elsif Loop
    → Actions-F (a.Action P) (a.Actions P) (a.Block P) (a.Action P) (e.Expression P × a.Actions P) (a.Action P)
seen_actions {P} g x =
    map-Actions Action Actions Block Choice Elsif Loop (a.Action P) (a.Actions P) (a.Block P) (a.Action P)
    (e.Expression P × a.Actions P) (a.Action P) (action_view g) (actions_view g) (block_view g) (choice_view g)
    (elsif_view g) (loop_view g) x

abbrev block_layer : {P Q : Type 0} (f : P → Q) (g : ℕ → P)
    → Block-F (AAction f g) (AActions f g) (ABlock f g) (AChoice f g) (AElsif f g) (ALoop f g)
    → Block-F Action Actions Block Choice Elsif Loop
block_layer f g y =
    map-Block (AAction f g) (AActions f g) (ABlock f g) (AChoice f g) (AElsif f g) (ALoop f g) Action Actions Block
    Choice Elsif Loop (λ u. u.0) (λ u. u.0) (λ u. u.0) (λ u. u.0) (λ u. u.0) (λ u. u.0) y

abbrev seen_block : {P : Type 0} → (ℕ → P) → Block-F Action Actions Block Choice Elsif Loop
    → Block-F (a.Action P) (a.Actions P) (a.Block P) (a.Action P) (e.Expression P × a.Actions P) (a.Action P)
seen_block {P} g x =
    map-Block Action Actions Block Choice Elsif Loop (a.Action P) (a.Actions P) (a.Block P) (a.Action P)
    (e.Expression P × a.Actions P) (a.Action P) (action_view g) (actions_view g) (block_view g) (choice_view g)
    (elsif_view g) (loop_view g) x

abbrev choice_layer : {P Q : Type 0} (f : P → Q) (g : ℕ → P)
    → Choice-F (AAction f g) (AActions f g) (ABlock f g) (AChoice f g) (AElsif f g) (ALoop f g)
    → Choice-F Action Actions Block Choice Elsif Loop
choice_layer f g y =
    map-Choice (AAction f g) (AActions f g) (ABlock f g) (AChoice f g) (AElsif f g) (ALoop f g) Action Actions Block
    Choice Elsif Loop (λ u. u.0) (λ u. u.0) (λ u. u.0) (λ u. u.0) (λ u. u.0) (λ u. u.0) y

abbrev seen_choice : {P : Type 0} → (ℕ → P) → Choice-F Action Actions Block Choice Elsif Loop
    → Choice-F (a.Action P) (a.Actions P) (a.Block P) (a.Action P) (e.Expression P × a.Actions P) (a.Action P)
seen_choice {P} g x =
    map-Choice Action Actions Block Choice Elsif Loop (a.Action P) (a.Actions P) (a.Block P) (a.Action P)
    (e.Expression P × a.Actions P) (a.Action P) (action_view g) (actions_view g) (block_view g) (choice_view g)
    (elsif_view g) (loop_view g) x

abbrev elsif_layer : {P Q : Type 0} (f : P → Q) (g : ℕ → P)
    → Elsif-F (AAction f g) (AActions f g) (ABlock f g) (AChoice f g) (AElsif f g) (ALoop f g)
    → Elsif-F Action Actions Block Choice Elsif Loop
elsif_layer f g y =
    map-Elsif (AAction f g) (AActions f g) (ABlock f g) (AChoice f g) (AElsif f g) (ALoop f g) Action Actions Block
    Choice Elsif Loop (λ u. u.0) (λ u. u.0) (λ u. u.0) (λ u. u.0) (λ u. u.0) (λ u. u.0) y

abbrev seen_elsif : {P : Type 0} → (ℕ → P) → Elsif-F Action Actions Block Choice Elsif Loop
    → Elsif-F (a.Action P) (a.Actions P) (a.Block P) (a.Action P) (e.Expression P × a.Actions P) (a.Action P)
seen_elsif {P} g x =
    map-Elsif Action Actions Block Choice Elsif Loop (a.Action P) (a.Actions P) (a.Block P) (a.Action P)
    (e.Expression P × a.Actions P) (a.Action P) (action_view g) (actions_view g) (block_view g) (choice_view g)
    (elsif_view g) (loop_view g) x

abbrev loop_layer : {P Q : Type 0} (f : P → Q) (g : ℕ → P)
    → Loop-F (AAction f g) (AActions f g) (ABlock f g) (AChoice f g) (AElsif f g) (ALoop f g)
    → Loop-F Action Actions Block Choice Elsif Loop
loop_layer f g y =
    map-Loop (AAction f g) (AActions f g) (ABlock f g) (AChoice f g) (AElsif f g) (ALoop f g) Action Actions Block
    Choice Elsif Loop (λ u. u.0) (λ u. u.0) (λ u. u.0) (λ u. u.0) (λ u. u.0) (λ u. u.0) y

abbrev seen_loop : {P : Type 0} → (ℕ → P) → Loop-F Action Actions Block Choice Elsif Loop
    → Loop-F (a.Action P) (a.Actions P) (a.Block P) (a.Action P) (e.Expression P × a.Actions P) (a.Action P)
seen_loop {P} g x =
    map-Loop Action Actions Block Choice Elsif Loop (a.Action P) (a.Actions P) (a.Block P) (a.Action P)
    (e.Expression P × a.Actions P) (a.Action P) (action_view g) (actions_view g) (block_view g) (choice_view g)
    (elsif_view g) (loop_view g) x

mores_each : {P Q : Type 0} (f : P → Q) (g : ℕ → P) (xs : List (AAction f g))
    → mores_to f (mores_of (map (action_view g) (map (λ u. u.0) xs)))
    ≡ mores_of (map (action_view (λ n. f (g n))) (map (λ u. u.0) xs))
mores_each f g [] = refl
mores_each f g (x ∷ xs) = ap₂ a.more x.1 (mores_each f g xs)

elsifs_each : {P Q : Type 0} (f : P → Q) (g : ℕ → P) (xs : List (AElsif f g))
    → elsifs_to f (elsifs_of (map (elsif_view g) (map (λ u. u.0) xs)))
    ≡ elsifs_of (map (elsif_view (λ n. f (g n))) (map (λ u. u.0) xs))
elsifs_each f g [] = refl
elsifs_each {Q = Q} f g (x ∷ xs) =
    ap₂ (λ (y : e.Expression Q × a.Actions Q) (ys : a.Elsifs Q). a.elsif y.0 y.1 ys) x.1 (elsifs_each f g xs)

action_by : {P Q : Type 0} (f : P → Q) (g : ℕ → P)
    (y : Action-F (AAction f g) (AActions f g) (ABlock f g) (AChoice f g) (AElsif f g) (ALoop f g))
    → action_to f (action_step g (seen_action g (action_layer f g y)))
    ≡ action_step (λ n. f (g n)) (seen_action (λ n. f (g n)) (action_layer f g y))
action_by f g (Action-F.Assign x t) = ap (a.assign (identifier_view (λ n. f (g n)) x)) (expression_tied f g t)
action_by f g (Action-F.Send x t) = ap (a.send (identifier_view (λ n. f (g n)) x)) (expression_tied f g t)
action_by f g (Action-F.If x) = x.value.1
action_by f g (Action-F.For x) = x.value.1

actions_by : {P Q : Type 0} (f : P → Q) (g : ℕ → P)
    (y : Actions-F (AAction f g) (AActions f g) (ABlock f g) (AChoice f g) (AElsif f g) (ALoop f g))
    → actions_to f (actions_step (seen_actions g (actions_layer f g y)))
    ≡ actions_step (seen_actions (λ n. f (g n)) (actions_layer f g y))
actions_by f g y = ap₂ a.actions y.first.1 (mores_each f g y.rest.items)

block_cases : {P Q : Type 0} (f : P → Q) (g : ℕ → P) (x : Option (Box (AActions f g) Global))
    → (let y : Block-F (AAction f g) (AActions f g) (ABlock f g) (AChoice f g) (AElsif f g) (ALoop f g) =
    record { actions = x } in
    block_to f (block_step (seen_block g (block_layer f g y)))
    ≡ block_step (seen_block (λ n. f (g n)) (block_layer f g y)))
block_cases f g None = refl
block_cases f g (Some x) = ap a.block x.value.1

block_by : {P Q : Type 0} (f : P → Q) (g : ℕ → P)
    (y : Block-F (AAction f g) (AActions f g) (ABlock f g) (AChoice f g) (AElsif f g) (ALoop f g))
    → block_to f (block_step (seen_block g (block_layer f g y)))
    ≡ block_step (seen_block (λ n. f (g n)) (block_layer f g y))
block_by f g y = block_cases f g y.actions

choice_cases : {P Q : Type 0} (f : P → Q) (g : ℕ → P)
    (y : Choice-F (AAction f g) (AActions f g) (ABlock f g) (AChoice f g) (AElsif f g) (ALoop f g))
    (x : Option (Box (AActions f g) Global))
    → (let z : Choice-F (AAction f g) (AActions f g) (ABlock f g) (AChoice f g) (AElsif f g) (ALoop f g) =
    record { test = y.test; actions = y.actions; elsifs = y.elsifs; otherwise = x } in
    action_to f (choice_step g (seen_choice g (choice_layer f g z)))
    ≡ choice_step (λ n. f (g n)) (seen_choice (λ n. f (g n)) (choice_layer f g z)))
choice_cases {Q = Q} f g y None =
    ap₂ (λ (q : e.Expression Q) (r : a.Actions Q).
    a.choose q r (elsifs_to f (elsifs_of (map (elsif_view g) (map (λ u. u.0) y.elsifs.items)))) (a.no_otherwise))
    (expression_tied f g y.test) y.actions.1
    ∙ ap₂ (a.choose (expression_view (λ n. f (g n)) y.test) (actions_view (λ n. f (g n)) y.actions.0))
    (elsifs_each f g y.elsifs.items) (refl)
choice_cases {Q = Q} f g y (Some x) =
    ap₂ (λ (q : e.Expression Q) (r : a.Actions Q).
    a.choose q r (elsifs_to f (elsifs_of (map (elsif_view g) (map (λ u. u.0) y.elsifs.items))))
    (a.otherwise (actions_to f (actions_view g x.value.0)))) (expression_tied f g y.test) y.actions.1
    ∙ ap₂ (a.choose (expression_view (λ n. f (g n)) y.test) (actions_view (λ n. f (g n)) y.actions.0))
    (elsifs_each f g y.elsifs.items) (ap a.otherwise x.value.1)

choice_by : {P Q : Type 0} (f : P → Q) (g : ℕ → P)
    (y : Choice-F (AAction f g) (AActions f g) (ABlock f g) (AChoice f g) (AElsif f g) (ALoop f g))
    → action_to f (choice_step g (seen_choice g (choice_layer f g y)))
    ≡ choice_step (λ n. f (g n)) (seen_choice (λ n. f (g n)) (choice_layer f g y))
choice_by f g y = choice_cases f g y y.otherwise

elsif_by : {P Q : Type 0} (f : P → Q) (g : ℕ → P)
    (y : Elsif-F (AAction f g) (AActions f g) (ABlock f g) (AChoice f g) (AElsif f g) (ALoop f g))
    → pair_to f (elsif_step g (seen_elsif g (elsif_layer f g y)))
    ≡ elsif_step (λ n. f (g n)) (seen_elsif (λ n. f (g n)) (elsif_layer f g y))
elsif_by {Q = Q} f g y =
    ap₂ (λ (q : e.Expression Q) (r : a.Actions Q). let p : e.Expression Q × a.Actions Q = (q, r) in p)
    (expression_tied f g y.test) y.actions.1

loop_by : {P Q : Type 0} (f : P → Q) (g : ℕ → P)
    (y : Loop-F (AAction f g) (AActions f g) (ABlock f g) (AChoice f g) (AElsif f g) (ALoop f g))
    → action_to f (loop_step g (seen_loop g (loop_layer f g y)))
    ≡ loop_step (λ n. f (g n)) (seen_loop (λ n. f (g n)) (loop_layer f g y))
loop_by f g y =
    ap₂ (λ q r. a.loop (f (g y.at)) (identifier_view (λ n. f (g n)) y.variable) q y.low y.high r)
    (reference_tied f g y.data_type) y.body.1

action_rolled : {P Q : Type 0} (f : P → Q) (g : ℕ → P) (x : Action-F Action Actions Block Choice Elsif Loop)
    (y : Action-F (AAction f g) (AActions f g) (ABlock f g) (AChoice f g) (AElsif f g) (ALoop f g))
    → action_layer f g y ≡ x → ActionTied f g (roll-Action x)
action_rolled {P} {Q} f g x y is =
    let z = action_layer f g y in
    subst (λ w. ActionTied f g (roll-Action w)) is (
    ap (action_to f) (fold-roll-Action (a.Action P) (a.Actions P) (a.Block P) (a.Action P)
    (e.Expression P × a.Actions P) (a.Action P) (action_step g) actions_step block_step (choice_step g)
    (elsif_step g) (loop_step g) z) ∙ action_by f g y
    ∙ sym (fold-roll-Action (a.Action Q) (a.Actions Q) (a.Block Q) (a.Action Q) (e.Expression Q × a.Actions Q)
    (a.Action Q) (action_step (λ n. f (g n))) actions_step block_step (choice_step (λ n. f (g n)))
    (elsif_step (λ n. f (g n))) (loop_step (λ n. f (g n))) z))

actions_rolled : {P Q : Type 0} (f : P → Q) (g : ℕ → P) (x : Actions-F Action Actions Block Choice Elsif Loop)
    (y : Actions-F (AAction f g) (AActions f g) (ABlock f g) (AChoice f g) (AElsif f g) (ALoop f g))
    → actions_layer f g y ≡ x → ActionsTied f g (roll-Actions x)
actions_rolled {P} {Q} f g x y is =
    let z = actions_layer f g y in
    subst (λ w. ActionsTied f g (roll-Actions w)) is (
    ap (actions_to f) (fold-roll-Actions (a.Action P) (a.Actions P) (a.Block P) (a.Action P)
    (e.Expression P × a.Actions P) (a.Action P) (action_step g) actions_step block_step (choice_step g)
    (elsif_step g) (loop_step g) z) ∙ actions_by f g y
    ∙ sym (fold-roll-Actions (a.Action Q) (a.Actions Q) (a.Block Q) (a.Action Q) (e.Expression Q × a.Actions Q)
    (a.Action Q) (action_step (λ n. f (g n))) actions_step block_step (choice_step (λ n. f (g n)))
    (elsif_step (λ n. f (g n))) (loop_step (λ n. f (g n))) z))

block_rolled : {P Q : Type 0} (f : P → Q) (g : ℕ → P) (x : Block-F Action Actions Block Choice Elsif Loop)
    (y : Block-F (AAction f g) (AActions f g) (ABlock f g) (AChoice f g) (AElsif f g) (ALoop f g))
    → block_layer f g y ≡ x → BlockTied f g (roll-Block x)
block_rolled {P} {Q} f g x y is =
    let z = block_layer f g y in
    subst (λ w. BlockTied f g (roll-Block w)) is (
    ap (block_to f) (fold-roll-Block (a.Action P) (a.Actions P) (a.Block P) (a.Action P) (e.Expression P × a.Actions P)
    (a.Action P) (action_step g) actions_step block_step (choice_step g) (elsif_step g) (loop_step g) z)
    ∙ block_by f g y
    ∙ sym (fold-roll-Block (a.Action Q) (a.Actions Q) (a.Block Q) (a.Action Q) (e.Expression Q × a.Actions Q)
    (a.Action Q) (action_step (λ n. f (g n))) actions_step block_step (choice_step (λ n. f (g n)))
    (elsif_step (λ n. f (g n))) (loop_step (λ n. f (g n))) z))

choice_rolled : {P Q : Type 0} (f : P → Q) (g : ℕ → P) (x : Choice-F Action Actions Block Choice Elsif Loop)
    (y : Choice-F (AAction f g) (AActions f g) (ABlock f g) (AChoice f g) (AElsif f g) (ALoop f g))
    → choice_layer f g y ≡ x → ChoiceTied f g (roll-Choice x)
choice_rolled {P} {Q} f g x y is =
    let z = choice_layer f g y in
    subst (λ w. ChoiceTied f g (roll-Choice w)) is (
    ap (action_to f) (fold-roll-Choice (a.Action P) (a.Actions P) (a.Block P) (a.Action P)
    (e.Expression P × a.Actions P) (a.Action P) (action_step g) actions_step block_step (choice_step g)
    (elsif_step g) (loop_step g) z) ∙ choice_by f g y
    ∙ sym (fold-roll-Choice (a.Action Q) (a.Actions Q) (a.Block Q) (a.Action Q) (e.Expression Q × a.Actions Q)
    (a.Action Q) (action_step (λ n. f (g n))) actions_step block_step (choice_step (λ n. f (g n)))
    (elsif_step (λ n. f (g n))) (loop_step (λ n. f (g n))) z))

elsif_rolled : {P Q : Type 0} (f : P → Q) (g : ℕ → P) (x : Elsif-F Action Actions Block Choice Elsif Loop)
    (y : Elsif-F (AAction f g) (AActions f g) (ABlock f g) (AChoice f g) (AElsif f g) (ALoop f g))
    → elsif_layer f g y ≡ x → ElsifTied f g (roll-Elsif x)
elsif_rolled {P} {Q} f g x y is =
    let z = elsif_layer f g y in
    subst (λ w. ElsifTied f g (roll-Elsif w)) is (
    ap (pair_to f) (fold-roll-Elsif (a.Action P) (a.Actions P) (a.Block P) (a.Action P) (e.Expression P × a.Actions P)
    (a.Action P) (action_step g) actions_step block_step (choice_step g) (elsif_step g) (loop_step g) z)
    ∙ elsif_by f g y
    ∙ sym (fold-roll-Elsif (a.Action Q) (a.Actions Q) (a.Block Q) (a.Action Q) (e.Expression Q × a.Actions Q)
    (a.Action Q) (action_step (λ n. f (g n))) actions_step block_step (choice_step (λ n. f (g n)))
    (elsif_step (λ n. f (g n))) (loop_step (λ n. f (g n))) z))

loop_rolled : {P Q : Type 0} (f : P → Q) (g : ℕ → P) (x : Loop-F Action Actions Block Choice Elsif Loop)
    (y : Loop-F (AAction f g) (AActions f g) (ABlock f g) (AChoice f g) (AElsif f g) (ALoop f g)) → loop_layer f g y ≡ x
    → LoopTied f g (roll-Loop x)
loop_rolled {P} {Q} f g x y is =
    let z = loop_layer f g y in
    subst (λ w. LoopTied f g (roll-Loop w)) is (
    ap (action_to f) (fold-roll-Loop (a.Action P) (a.Actions P) (a.Block P) (a.Action P) (e.Expression P × a.Actions P)
    (a.Action P) (action_step g) actions_step block_step (choice_step g) (elsif_step g) (loop_step g) z)
    ∙ loop_by f g y
    ∙ sym (fold-roll-Loop (a.Action Q) (a.Actions Q) (a.Block Q) (a.Action Q) (e.Expression Q × a.Actions Q)
    (a.Action Q) (action_step (λ n. f (g n))) actions_step block_step (choice_step (λ n. f (g n)))
    (elsif_step (λ n. f (g n))) (loop_step (λ n. f (g n))) z))

pub block_tied : {P Q : Type 0} (f : P → Q) (g : ℕ → P) (x : Block) → BlockTied f g x
block_tied f g =
    ind-Block (ActionTied f g) (ActionsTied f g) (BlockTied f g) (ChoiceTied f g) (ElsifTied f g) (LoopTied f g)
    (action_rolled f g) (actions_rolled f g) (block_rolled f g) (choice_rolled f g) (elsif_rolled f g) (loop_rolled f g)
