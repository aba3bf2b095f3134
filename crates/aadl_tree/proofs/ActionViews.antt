-- The views of actions, level by level.
use Rattle.std.proofs.Common.{◌≡◌, ℕ, List, [], ◌∷◌, map, Option, Some, None, Vec, Global, Box, refl, ap, sym, ◌∙◌}
use Rattle.std.proofs.Common.{rules}
use Rattle.std.specs.Prelude.{option_map}
use Rattle.aadl_tree.specs.declared.names.Identifier.{Identifier}
use Rattle.aadl_tree.specs.declared.names.Reference.{Reference}
use Rattle.aadl_tree.specs.declared.expressions.Expression.{Expression}
use Rattle.aadl_tree.specs.declared.actions.Bound.{Bound}
use Rattle.aadl_tree.specs.declared.actions.Action.{Action, Assign, Send, If, For, the_lemmas}
use Rattle.aadl_tree.specs.declared.actions.Action.{the_lemmas as action_lemmas}
use Rattle.aadl_tree.specs.declared.actions.Actions.{Actions, roll-Actions}
use Rattle.aadl_tree.specs.declared.actions.Block.{Block, roll-Block}
use Rattle.aadl_tree.specs.declared.actions.Choice.{Choice, roll-Choice}
use Rattle.aadl_tree.specs.declared.actions.Elsif.{Elsif}
use Rattle.aadl_tree.specs.declared.actions.Loop.{Loop, roll-Loop}
use Rattle.aadl_tree.specs.declared.actions.Action.TheViews.{out-Choice, roll-out-Choice, out-Loop, out-Actions}
use Rattle.aadl_tree.specs.declared.actions.Action.TheViews.{out-Block, roll-out-Block}
use Rattle.aadl_tree.specs.Actions.{assign, send, choose, loop, actions, elsif}
use Rattle.aadl_tree.specs.Expressions as Plain
use Rattle.aadl_tree.specs.Actions as Acts
use Rattle.aadl_tree.specs.proof.NameViews.{identifier_view, reference_view}
use Rattle.aadl_tree.specs.proof.ExpressionViews.{expression_view}
use Rattle.aadl_tree.specs.proof.ActionViews.{action_view, actions_view, block_view, choice_view, loop_view, mores_view}
use Rattle.aadl_tree.specs.proof.ActionViews.{elsif_view, elsifs_of, elsifs_view, otherwise_of, block_of}

pub view-Assign : {P : Type 0} (place : ℕ → P) (x : Identifier) (e : Expression)
    → action_view place (Assign x e) ≡ assign (identifier_view place x) (expression_view place e)
view-Assign place x e = search (rules, the_lemmas)

pub view-Send : {P : Type 0} (place : ℕ → P) (x : Identifier) (e : Expression)
    → action_view place (Send x e) ≡ send (identifier_view place x) (expression_view place e)
view-Send place x e = search (rules, the_lemmas)

pub view-If : {P : Type 0} (place : ℕ → P) (c : Box Choice Global)
    → action_view place (If c) ≡ choice_view place c.value
view-If place c = search (rules, the_lemmas)

pub view-For : {P : Type 0} (place : ℕ → P) (l : Box Loop Global) → action_view place (For l) ≡ loop_view place l.value
view-For place l = search (rules, the_lemmas)

pub view-actions : {P : Type 0} (place : ℕ → P) (first : Action) (rest : Vec Action Global)
    → actions_view place (roll-Actions (record { first = first; rest = rest }))
    ≡ actions (action_view place first) (mores_view place rest.items)
view-actions place first rest = search (rules, the_lemmas)

pub view-block : {P : Type 0} (place : ℕ → P) (a : Option (Box Actions Global))
    → block_view place (roll-Block (record { actions = a })) ≡ block_of (option_map (λ b. actions_view place b.value) a)
view-block place None = search (rules, the_lemmas)
view-block place (Some a) = search (rules, the_lemmas)

pub view-loop : {P : Type 0} (place : ℕ → P) (at : ℕ) (x : Identifier) (data_type : Reference) (low high : Bound)
    (body : Block)
    → loop_view place (roll-Loop
    (record { at = at; variable = x; data_type = data_type; low = low; high = high; body = body }))
    ≡ loop (place at) (identifier_view place x) (reference_view place data_type) low high (block_view place body)
view-loop place at x data_type low high body = search (rules, the_lemmas)

view-elsif : {P : Type 0} (place : ℕ → P) (x : Elsif)
    → ◌≡◌ {A = Plain.Expression P × Acts.Actions P} (elsif_view place x)
    (expression_view place x.test, actions_view place x.actions)
view-elsif place x = search (rules, the_lemmas)

elsifs_along : {P : Type 0} (place : ℕ → P) (xs : List Elsif)
    → elsifs_of (map (elsif_view place) xs) ≡ elsifs_view place xs
elsifs_along place [] = refl
elsifs_along place (x ∷ xs) =
    ap (λ p. elsif p.0 p.1 (elsifs_of (map (elsif_view place) xs))) (view-elsif place x)
    ∙ ap (elsif (expression_view place x.test) (actions_view place x.actions)) (elsifs_along place xs)

choice_along : {P : Type 0} (place : ℕ → P) (test : Expression) (a : Actions) (es : Vec Elsif Global)
    (o : Option (Box Actions Global))
    → choice_view place (roll-Choice (record { test = test; actions = a; elsifs = es; otherwise = o }))
    ≡ choose (expression_view place test) (actions_view place a) (elsifs_of (map (elsif_view place) es.items))
    (otherwise_of (option_map (λ b. actions_view place b.value) o))
choice_along place test a es None = search (rules, the_lemmas)
choice_along place test a es (Some o) = search (rules, the_lemmas)

pub view-choice : {P : Type 0} (place : ℕ → P) (test : Expression) (a : Actions) (es : Vec Elsif Global)
    (o : Option (Box Actions Global))
    → choice_view place (roll-Choice (record { test = test; actions = a; elsifs = es; otherwise = o }))
    ≡ choose (expression_view place test) (actions_view place a) (elsifs_view place es.items)
    (otherwise_of (option_map (λ b. actions_view place b.value) o))
view-choice place test a es o =
    choice_along place test a es o
    ∙ ap (λ xs. choose (expression_view place test) (actions_view place a) xs
    (otherwise_of (option_map (λ b. actions_view place b.value) o))) (elsifs_along place es.items)

-- the views of structs, by their fields
pub view-out-choice : {P : Type 0} (place : ℕ → P) (x : Choice)
    → choice_view place x
    ≡ choose (expression_view place (out-Choice x).test) (actions_view place (out-Choice x).actions)
    (elsifs_view place (out-Choice x).elsifs.items)
    (otherwise_of (option_map (λ b. actions_view place b.value) (out-Choice x).otherwise))
view-out-choice place x =
    let y = out-Choice x in
    ap (choice_view place) (sym (roll-out-Choice x)) ∙ view-choice place y.test y.actions y.elsifs y.otherwise

pub view-out-loop : {P : Type 0} (place : ℕ → P) (x : Loop)
    → loop_view place x
    ≡ loop (place (out-Loop x).at) (identifier_view place (out-Loop x).variable)
    (reference_view place (out-Loop x).data_type) (out-Loop x).low (out-Loop x).high
    (block_view place (out-Loop x).body)
view-out-loop place x = search (rules, the_lemmas)

pub view-out-actions : {P : Type 0} (place : ℕ → P) (x : Actions)
    → actions_view place x ≡ actions (action_view place (out-Actions x).first)
    (mores_view place (out-Actions x).rest.items)
view-out-actions place x = search (rules, action_lemmas)

pub view-out-block : {P : Type 0} (place : ℕ → P) (x : Block)
    → block_view place x ≡ block_of (option_map (λ b. actions_view place b.value) (out-Block x).actions)
view-out-block place x = ap (block_view place) (sym (roll-out-Block x)) ∙ view-block place (out-Block x).actions
