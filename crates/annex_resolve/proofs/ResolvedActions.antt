-- The resolved actions of a text are the actions of the definition, one level of their trees after another.
use Rattle.std.proofs.Common.{◌≡◌, ℕ, ◌+◌, ◌<◌, ℤ, not, Bool, Result, Ok, Err, List, [], ◌∷◌, ◌++◌, length, take}
use Rattle.std.proofs.Common.{get_or, Option, Some, None, refl, sym, ap, ◌∙◌, append_assoc, Vec, Box, Global}
use Rattle.std.specs.Prelude.{option_map, IfOk}
use Rattle.std.specs.declared.alloc.AllocError.{AllocError}
use Rattle.std.proofs.lemmas.List.{append-nil}
use Rattle.pals_base.specs.declared.behaviour.Kind.{Kind}
use Rattle.pals_base.specs.declared.behaviour.Act.{Act}
use Rattle.pals_base.specs.declared.behaviour.Branch.{Branch}
use Rattle.pals_base.specs.ExpressionAndActionTrees as plain
use Rattle.pals_base.specs.TypingRules as base
use Rattle.pals_base.specs.proof.TreeViews.{tree_of, action_of as act_tree, actions_along, branches_along}
use Rattle.aadl_tree.specs.declared.actions.Bound.{Bound}
use Rattle.aadl_tree.specs.declared.actions.Action as source_action
use Rattle.aadl_tree.specs.declared.actions.Actions as source_actions
use Rattle.aadl_tree.specs.declared.actions.Elsif as source_elsif
use Rattle.aadl_tree.specs.Names.{Identifier, Reference}
use Rattle.aadl_tree.specs.Expressions.{Expression}
use Rattle.aadl_tree.specs.Actions.{Action, assign, send, choose, loop, Actions, actions, Block}
use Rattle.aadl_tree.specs.proof.PlaceMaps.{kept_place}
use Rattle.aadl_tree.specs.proof.ExpressionViews.{expression_view}
use Rattle.aadl_tree.specs.proof.ActionViews.{action_view, actions_view, mores_view, elsifs_view}
use Rattle.aadl_tree.specs.proof.ActionViews.{otherwise_of as listed_otherwise, block_of as listed_block}
use Rattle.annex_resolve.specs.declared.scope.Scope.{Scope}
use Rattle.annex_resolve.specs.declared.scope.DeclaredName.{DeclaredName}
use Rattle.annex_resolve.specs.declared.violation.Violation.{Violation}
use Rattle.annex_resolve.specs.declared.violation.TheConstants.{BAD_TYPE, LOOP_TOO_LONG}
use Rattle.annex_resolve.specs.NameMeanings.{entry_named, kind_of, may_set, may_send, given_to, with_loop}
use Rattle.annex_resolve.specs.FindingRecords.{found_if}
use Rattle.annex_resolve.specs.ExpressionTypesAndFindings.{whole_types, kind_named}
use Rattle.annex_resolve.specs.ResolvedTrees.{bound_value, expression_of, action_of, actions_of, mores_of, elsifs_of}
use Rattle.annex_resolve.specs.ResolvedTrees.{otherwise_of, block_of}
use Rattle.annex_resolve.specs.ActionFindings.{turns, turns_with_outer, is_too_long, is_integer, action_findings}
use Rattle.annex_resolve.specs.ActionFindings.{actions_findings, mores_findings, branch_findings, elsifs_findings}
use Rattle.annex_resolve.specs.ActionFindings.{otherwise_findings, block_findings}
use Rattle.annex_resolve.specs.proof.ResolutionResults.{ResolvesAction, ResolvesActions, ResolvesBranch}
use Rattle.annex_resolve.specs.proof.ResolutionResults.{ResolvesBranches}
use Rattle.annex_resolve.proofs.ResolvedTermsAndSums.{take_next}

-- ---- a name that is assigned or sent
given_by : (scope : Scope) (x : Identifier ℕ) (value : Expression ℕ) (test : Option DeclaredName → Bool)
    (entry : Option DeclaredName) (may : Bool) (act : Act) (b m a : List Violation)
    → entry ≡ entry_named scope x.spelling → may ≡ test entry → m ≡ b ++ found_if (not may) x.at BAD_TYPE []
    → ResolvesAction (given_to (expression_of scope value) entry) (whole_types scope (kind_of entry) value) act m a
    → ResolvesAction (given_to (expression_of scope value) (entry_named scope x.spelling))
    (found_if (not (test (entry_named scope x.spelling))) x.at BAD_TYPE []
    ++ whole_types scope (kind_of (entry_named scope x.spelling)) value) act b a
given_by scope x value test entry may act b m a known is added reads = record {
  tree_is = reads.tree_is ∙ ap (given_to (expression_of scope value)) known;
  found =
      reads.found ∙ ap (λ l. l ++ whole_types scope (kind_of entry) value) added
      ∙ append_assoc b (found_if (not may) x.at BAD_TYPE []) (whole_types scope (kind_of entry) value)
      ∙ ap (λ y. b ++ (found_if (not y) x.at BAD_TYPE [] ++ whole_types scope (kind_of entry) value))
      (is ∙ ap test known)
      ∙ ap (λ e. b ++ (found_if (not (test (entry_named scope x.spelling))) x.at BAD_TYPE []
      ++ whole_types scope (kind_of e) value)) known;
}

pub assigned : (scope : Scope) (around : ℕ) (y : Action ℕ) (x : Identifier ℕ) (value : Expression ℕ)
    (entry : Option DeclaredName) (may : Bool) (r : Result Act AllocError) (b m a : List Violation) → y ≡ assign x value
    → entry ≡ entry_named scope x.spelling → may ≡ may_set entry → m ≡ b ++ found_if (not may) x.at BAD_TYPE []
    → IfOk r (λ act. ResolvesAction (given_to (expression_of scope value) entry)
    (whole_types scope (kind_of entry) value) act m a)
    → IfOk r (λ act. ResolvesAction (action_of scope y) (action_findings scope around y) act b a)
unfolding action_of action_findings
assigned scope around y x value entry may (Ok act) b m a view known is added reads =
    rw view (given_by scope x value may_set entry may act b m a known is added reads)
assigned scope around y x value entry may (Err e) b m a view known is added reads = tt

pub sent : (scope : Scope) (around : ℕ) (y : Action ℕ) (x : Identifier ℕ) (value : Expression ℕ)
    (entry : Option DeclaredName) (may : Bool) (r : Result Act AllocError) (b m a : List Violation) → y ≡ send x value
    → entry ≡ entry_named scope x.spelling → may ≡ may_send entry → m ≡ b ++ found_if (not may) x.at BAD_TYPE []
    → IfOk r (λ act. ResolvesAction (given_to (expression_of scope value) entry)
    (whole_types scope (kind_of entry) value) act m a)
    → IfOk r (λ act. ResolvesAction (action_of scope y) (action_findings scope around y) act b a)
unfolding action_of action_findings
sent scope around y x value entry may (Ok act) b m a view known is added reads =
    rw view (given_by scope x value may_send entry may act b m a known is added reads)
sent scope around y x value entry may (Err e) b m a view known is added reads = tt

-- results for the same text
pub same_action : (scope : Scope) (around : ℕ) (x y : Action ℕ) (r : Result Act AllocError)
    (b a : List Violation) → x ≡ y
    → IfOk r (λ act. ResolvesAction (action_of scope y) (action_findings scope around y) act b a)
    → IfOk r (λ act. ResolvesAction (action_of scope x) (action_findings scope around x) act b a)
same_action scope around x y r b a is reads = rw is reads

-- ---- actions in sequence
abbrev pub put_last : plain.Actions → plain.Action → plain.Actions
put_last plain.Nothing x = plain.Do x plain.Nothing
put_last (plain.Do a rest) x = plain.Do a (put_last rest x)

actions_along-push : (xs : List Act) (x : Act) → actions_along (xs ++ x ∷ []) ≡ put_last (actions_along xs) (act_tree x)
actions_along-push [] x = refl
actions_along-push (y ∷ ys) x = ap (λ r. plain.Do (act_tree y) r) (actions_along-push ys x)

mores-push : (scope : Scope) (xs : List source_action.Action) (x : source_action.Action)
    → mores_of scope (mores_view kept_place (xs ++ x ∷ []))
    ≡ put_last (mores_of scope (mores_view kept_place xs)) (action_of scope (action_view kept_place x))
unfolding mores_of
mores-push scope [] x = refl
mores-push scope (y ∷ ys) x = ap (λ r. plain.Do (action_of scope (action_view kept_place y)) r) (mores-push scope ys x)

mores_findings-push : (scope : Scope) (around : ℕ) (xs : List source_action.Action) (x : source_action.Action)
    → mores_findings scope around (mores_view kept_place (xs ++ x ∷ []))
    ≡ mores_findings scope around (mores_view kept_place xs)
    ++ action_findings scope around (action_view kept_place x)
unfolding mores_findings
mores_findings-push scope around [] x = append-nil (action_findings scope around (action_view kept_place x))
mores_findings-push scope around (y ∷ ys) x =
    let front = action_findings scope around (action_view kept_place y) in
    ap (λ l. front ++ l) (mores_findings-push scope around ys x)
    ∙ sym (append_assoc front (mores_findings scope around (mores_view kept_place ys))
    (action_findings scope around (action_view kept_place x)))

pub one_action : (scope : Scope) (around : ℕ) (first : Action ℕ) (act : Act) (acts news : List Act)
    (b a : List Violation)
    → ResolvesAction (action_of scope first) (action_findings scope around first) act b a → acts ≡ []
    → news ≡ acts ++ act ∷ []
    → ResolvesActions (plain.Do (action_of scope first) (mores_of scope (mores_view kept_place [])))
    (action_findings scope around first ++ mores_findings scope around (mores_view kept_place [])) news b a
unfolding mores_of mores_findings
one_action scope around first act acts news b a reads none pushed = record {
  tree_is = ap actions_along (pushed ∙ ap (λ l. l ++ act ∷ []) none) ∙ ap (λ t. plain.Do t plain.Nothing) reads.tree_is;
  found = reads.found ∙ ap (λ l. b ++ l) (sym (append-nil (action_findings scope around first)));
}

pub next_action : (scope : Scope) (around : ℕ) (first : Action ℕ) (xs : List source_action.Action) (i : ℕ)
    (x : source_action.Action) (act : Act) (acts news : List Act) (b m a : List Violation)
    → i < length xs → x ≡ get_or xs i x
    → ResolvesActions (plain.Do (action_of scope first) (mores_of scope (mores_view kept_place (take i xs))))
    (action_findings scope around first ++ mores_findings scope around (mores_view kept_place (take i xs))) acts b m
    → ResolvesAction (action_of scope (action_view kept_place x))
    (action_findings scope around (action_view kept_place x))
    act m a → news ≡ acts ++ act ∷ []
    → ResolvesActions (plain.Do (action_of scope first) (mores_of scope (mores_view kept_place (take (i + 1) xs))))
    (action_findings scope around first
    ++ mores_findings scope around (mores_view kept_place (take (i + 1) xs))) news b a
next_action scope around first xs i x act acts news b m a within is before reads pushed =
    let fs = action_findings scope around first in
    let gs = mores_findings scope around (mores_view kept_place (take i xs)) in
    let hs = action_findings scope around (action_view kept_place x) in
    record {
      tree_is =
          ap actions_along pushed ∙ actions_along-push acts act ∙ ap (λ t. put_last t (act_tree act)) before.tree_is
          ∙ ap (λ t. plain.Do (action_of scope first) (put_last (mores_of scope (mores_view kept_place (take i xs))) t))
          reads.tree_is
          ∙ ap (plain.Do (action_of scope first))
          (sym (ap (λ l. mores_of scope (mores_view kept_place l)) (take_next xs i x within is)
          ∙ mores-push scope (take i xs) x));
      found =
          reads.found ∙ ap (λ l. l ++ hs) before.found ∙ append_assoc b (fs ++ gs) hs
          ∙ ap (λ l. b ++ l) (append_assoc fs gs hs)
          ∙ ap (λ l. b ++ (fs ++ l))
          (sym (ap (λ l. mores_findings scope around (mores_view kept_place l)) (take_next xs i x within is)
          ∙ mores_findings-push scope around (take i xs) x));
    }

pub all_actions : (scope : Scope) (around : ℕ) (y : Actions ℕ) (first : Action ℕ) (xs : List source_action.Action)
    (acts : List Act) (b a : List Violation) → y ≡ actions first (mores_view kept_place xs)
    → ResolvesActions (plain.Do (action_of scope first) (mores_of scope (mores_view kept_place xs)))
    (action_findings scope around first ++ mores_findings scope around (mores_view kept_place xs)) acts b a
    → ResolvesActions (actions_of scope y) (actions_findings scope around y) acts b a
unfolding actions_of actions_findings
all_actions scope around y first xs acts b a view reads = rw view reads

-- ---- optional actions
pub no_actions : (scope : Scope) (around : ℕ) (o : Option (Box source_actions.Actions Global)) (acts : List Act)
    (b : List Violation) → o ≡ None → acts ≡ []
    → let x = listed_block (option_map (λ b. actions_view kept_place b.value) o) in
    ResolvesActions (block_of scope x) (block_findings scope around x) acts b b
unfolding block_of block_findings
no_actions scope around None acts b is none = record { tree_is = ap actions_along none; found = sym (append-nil b) }
no_actions scope around (Some y) acts b is none = absurd (cc is)

pub some_actions : (scope : Scope) (around : ℕ) (o : Option (Box source_actions.Actions Global))
    (y : Box source_actions.Actions Global) (r : Result (Vec Act Global) AllocError) (b a : List Violation) → o ≡ Some y
    → IfOk r (λ acts. ResolvesActions (actions_of scope (actions_view kept_place y.value))
    (actions_findings scope around (actions_view kept_place y.value)) acts.items b a)
    → let x = listed_block (option_map (λ b. actions_view kept_place b.value) o) in
    IfOk r (λ acts. ResolvesActions (block_of scope x) (block_findings scope around x) acts.items b a)
unfolding block_of block_findings
some_actions scope around o y (Ok acts) b a is reads = rw is reads
some_actions scope around o y (Err e) b a is reads = tt

pub same_block : (scope : Scope) (around : ℕ) (x y : Block ℕ) (r : Result (Vec Act Global) AllocError)
    (b a : List Violation) → x ≡ y
    → IfOk r (λ acts. ResolvesActions (block_of scope y) (block_findings scope around y) acts.items b a)
    → IfOk r (λ acts. ResolvesActions (block_of scope x) (block_findings scope around x) acts.items b a)
same_block scope around x y r b a is reads = rw is reads

as_otherwise : (scope : Scope) (around : ℕ) (o : Option (Actions ℕ)) (acts : List Act) (b a : List Violation)
    → ResolvesActions (block_of scope (listed_block o)) (block_findings scope around (listed_block o)) acts b a
    → ResolvesActions (otherwise_of scope (listed_otherwise o))
    (otherwise_findings scope around (listed_otherwise o)) acts b a
unfolding block_of otherwise_of block_findings otherwise_findings
as_otherwise scope around None acts b a reads = reads
as_otherwise scope around (Some x) acts b a reads = reads

-- ---- branches
abbrev pub put_branch : plain.Branches → plain.Expression → plain.Actions → plain.Branches
put_branch plain.NoBranch e xs = plain.Where e xs plain.NoBranch
put_branch (plain.Where g a rest) e xs = plain.Where g a (put_branch rest e xs)

branches_along-push : (xs : List Branch) (x : Branch)
    → branches_along (xs ++ x ∷ []) ≡ put_branch (branches_along xs) (tree_of x.guard) (actions_along x.acts.items)
branches_along-push [] x = refl
branches_along-push (y ∷ ys) x =
    ap (λ r. plain.Where (tree_of y.guard) (actions_along y.acts.items) r) (branches_along-push ys x)

elsifs-push : (scope : Scope) (xs : List source_elsif.Elsif) (x : source_elsif.Elsif)
    → elsifs_of scope (elsifs_view kept_place (xs ++ x ∷ []))
    ≡ put_branch (elsifs_of scope (elsifs_view kept_place xs))
    (expression_of scope (expression_view kept_place x.test)) (actions_of scope (actions_view kept_place x.actions))
unfolding elsifs_of
elsifs-push scope [] x = refl
elsifs-push scope (y ∷ ys) x =
    ap (λ r. plain.Where (expression_of scope (expression_view kept_place y.test))
    (actions_of scope (actions_view kept_place y.actions)) r) (elsifs-push scope ys x)

abbrev elsif_findings : Scope → ℕ → source_elsif.Elsif → List Violation
elsif_findings scope around x =
    branch_findings scope around (expression_view kept_place x.test) (actions_view kept_place x.actions)

elsifs_findings-push : (scope : Scope) (around : ℕ) (xs : List source_elsif.Elsif) (x : source_elsif.Elsif)
    → elsifs_findings scope around (elsifs_view kept_place (xs ++ x ∷ []))
    ≡ elsifs_findings scope around (elsifs_view kept_place xs) ++ elsif_findings scope around x
unfolding elsifs_findings
elsifs_findings-push scope around [] x = append-nil (elsif_findings scope around x)
elsifs_findings-push scope around (y ∷ ys) x =
    ap (λ l. elsif_findings scope around y ++ l) (elsifs_findings-push scope around ys x)
    ∙ sym (append_assoc (elsif_findings scope around y) (elsifs_findings scope around (elsifs_view kept_place ys))
    (elsif_findings scope around x))

pub branch_read : (scope : Scope) (around : ℕ) (e : Expression ℕ) (xs : Actions ℕ) (branch : Branch)
    (types : List Violation) (b m a : List Violation)
    → tree_of branch.guard ≡ expression_of scope e → m ≡ b ++ types
    → ResolvesActions (actions_of scope xs) (actions_findings scope around xs) branch.acts.items m a
    → ResolvesBranch (expression_of scope e) (actions_of scope xs) (types ++ actions_findings scope around xs) branch b
    a
branch_read scope around e xs branch types b m a guard typed reads = record {
  guard_is = guard;
  actions_are = reads.tree_is;
  found =
      reads.found ∙ ap (λ l. l ++ actions_findings scope around xs) typed
      ∙ append_assoc b types (actions_findings scope around xs);
}

pub one_branch : (scope : Scope) (around : ℕ) (e : Expression ℕ) (xs : Actions ℕ) (branch : Branch)
    (branches news : List Branch) (b a : List Violation)
    → ResolvesBranch (expression_of scope e) (actions_of scope xs) (branch_findings scope around e xs) branch b a
    → branches ≡ [] → news ≡ branches ++ branch ∷ []
    → ResolvesBranches (plain.Where (expression_of scope e) (actions_of scope xs)
    (elsifs_of scope (elsifs_view kept_place [])))
    (branch_findings scope around e xs ++ elsifs_findings scope around (elsifs_view kept_place [])) news b a
unfolding elsifs_of elsifs_findings
one_branch scope around e xs branch branches news b a reads none pushed = record {
  tree_is =
      ap branches_along (pushed ∙ ap (λ l. l ++ branch ∷ []) none)
      ∙ ap (λ g. plain.Where g (actions_along branch.acts.items) plain.NoBranch) reads.guard_is
      ∙ ap (λ t. plain.Where (expression_of scope e) t plain.NoBranch) reads.actions_are;
  found = reads.found ∙ ap (λ l. b ++ l) (sym (append-nil (branch_findings scope around e xs)));
}

pub next_branch : (scope : Scope) (around : ℕ) (e : Expression ℕ) (xs : Actions ℕ) (es : List source_elsif.Elsif)
    (i : ℕ) (x : source_elsif.Elsif) (branch : Branch) (branches news : List Branch) (b m a : List Violation)
    → i < length es → x ≡ get_or es i x
    → ResolvesBranches (plain.Where (expression_of scope e) (actions_of scope xs)
    (elsifs_of scope (elsifs_view kept_place (take i es))))
    (branch_findings scope around e xs ++ elsifs_findings scope around (elsifs_view kept_place (take i es)))
    branches b m
    → ResolvesBranch (expression_of scope (expression_view kept_place x.test))
    (actions_of scope (actions_view kept_place x.actions)) (elsif_findings scope around x) branch m a
    → news ≡ branches ++ branch ∷ []
    → ResolvesBranches (plain.Where (expression_of scope e) (actions_of scope xs)
    (elsifs_of scope (elsifs_view kept_place (take (i + 1) es))))
    (branch_findings scope around e xs
    ++ elsifs_findings scope around (elsifs_view kept_place (take (i + 1) es))) news b a
next_branch scope around e xs es i x branch branches news b m a within is before reads pushed =
    let fs = branch_findings scope around e xs in
    let gs = elsifs_findings scope around (elsifs_view kept_place (take i es)) in
    let hs = elsif_findings scope around x in
    record {
      tree_is =
          ap branches_along pushed ∙ branches_along-push branches branch
          ∙ ap (λ t. put_branch t (tree_of branch.guard) (actions_along branch.acts.items)) before.tree_is
          ∙ ap (λ g. plain.Where (expression_of scope e) (actions_of scope xs)
          (put_branch (elsifs_of scope (elsifs_view kept_place (take i es))) g (actions_along branch.acts.items)))
          reads.guard_is
          ∙ ap (λ t. plain.Where (expression_of scope e) (actions_of scope xs)
          (put_branch (elsifs_of scope (elsifs_view kept_place (take i es)))
          (expression_of scope (expression_view kept_place x.test)) t)) reads.actions_are
          ∙ ap (plain.Where (expression_of scope e) (actions_of scope xs))
          (sym (ap (λ l. elsifs_of scope (elsifs_view kept_place l)) (take_next es i x within is)
          ∙ elsifs-push scope (take i es) x));
      found =
          reads.found ∙ ap (λ l. l ++ hs) before.found ∙ append_assoc b (fs ++ gs) hs
          ∙ ap (λ l. b ++ l) (append_assoc fs gs hs)
          ∙ ap (λ l. b ++ (fs ++ l))
          (sym (ap (λ l. elsifs_findings scope around (elsifs_view kept_place l)) (take_next es i x within is)
          ∙ elsifs_findings-push scope around (take i es) x));
    }

pub chosen : (scope : Scope) (around : ℕ) (y : Action ℕ) (e : Expression ℕ) (xs : Actions ℕ)
    (es : List source_elsif.Elsif) (o : Option (Box source_actions.Actions Global)) (act : Act) (branches : List Branch)
    (acts : List Act) (b m a : List Violation)
    → y ≡ choose e xs (elsifs_view kept_place es)
    (listed_otherwise (option_map (λ b. actions_view kept_place b.value) o))
    → ResolvesBranches (plain.Where (expression_of scope e) (actions_of scope xs)
    (elsifs_of scope (elsifs_view kept_place es)))
    (branch_findings scope around e xs ++ elsifs_findings scope around (elsifs_view kept_place es)) branches b m
    → (let x = listed_block (option_map (λ b. actions_view kept_place b.value) o) in
    ResolvesActions (block_of scope x) (block_findings scope around x) acts m a)
    → act_tree act ≡ plain.If (branches_along branches) (actions_along acts)
    → ResolvesAction (action_of scope y) (action_findings scope around y) act b a
unfolding action_of action_findings
chosen scope around y e xs es o act branches acts b m a view reads others is =
    let rest = as_otherwise scope around (option_map (λ b. actions_view kept_place b.value) o) acts m a others in
    let fs = branch_findings scope around e xs ++ elsifs_findings scope around (elsifs_view kept_place es) in
    let gs = otherwise_findings scope around (listed_otherwise (option_map (λ b. actions_view kept_place b.value) o)) in
    rw view (record {
      tree_is =
          is ∙ ap (λ t. plain.If t (actions_along acts)) reads.tree_is
          ∙ ap (plain.If (plain.Where (expression_of scope e) (actions_of scope xs)
          (elsifs_of scope (elsifs_view kept_place es)))) rest.tree_is;
      found = rest.found ∙ ap (λ l. l ++ gs) reads.found ∙ append_assoc b fs gs;
    })

-- ---- a loop
pub looped : (scope : Scope) (around : ℕ) (y : Action ℕ) (at : ℕ) (x : Identifier ℕ) (type : Reference ℕ)
    (low high : Bound) (body : Block ℕ) (l h : ℤ) (kind : Option Kind) (right long : Bool) (count all : ℕ)
    (inner : Scope) (act : Act) (acts : List Act) (b m1 m2 a : List Violation)
    → y ≡ loop at x type low high body → l ≡ bound_value low → h ≡ bound_value high → count ≡ base.turns l h
    → kind ≡ kind_named type → right ≡ is_integer kind → m1 ≡ b ++ found_if (not right) at BAD_TYPE []
    → long ≡ is_too_long around count → m2 ≡ m1 ++ found_if long at LOOP_TOO_LONG [] → inner ≡ with_loop scope x
    → all ≡ turns_with_outer around count
    → ResolvesActions (block_of inner body) (block_findings inner all body) acts m2 a
    → act_tree act ≡ plain.For l h (actions_along acts)
    → ResolvesAction (action_of scope y) (action_findings scope around y) act b a
unfolding action_of action_findings
looped scope around y at x type low high body l h kind right long count all inner act acts b m1 m2 a view low_is high_is
    count_is kind_is right_is typed long_is limited inner_is all_is reads is =
    let turns_are : count ≡ turns low high = count_is ∙ ap (λ z. base.turns z h) low_is
    ∙ ap (base.turns (bound_value low)) high_is in
    let fs = found_if (not (is_integer (kind_named type))) at BAD_TYPE [] in
    let gs = found_if (is_too_long around (turns low high)) at LOOP_TOO_LONG [] in
    let hs = block_findings (with_loop scope x) (turns_with_outer around (turns low high)) body in
    let first : m1 ≡ b ++ fs = typed
    ∙ ap (λ k. b ++ found_if (not k) at BAD_TYPE []) (right_is ∙ ap is_integer kind_is) in
    let second : m2 ≡ (b ++ fs) ++ gs = limited ∙ ap (λ z. z ++ found_if long at LOOP_TOO_LONG []) first
    ∙ ap (λ z. (b ++ fs) ++ found_if z at LOOP_TOO_LONG []) (long_is ∙ ap (is_too_long around) turns_are) in
    rw view (record {
      tree_is =
          is ∙ ap (λ z. plain.For z h (actions_along acts)) low_is
          ∙ ap (λ z. plain.For (bound_value low) z (actions_along acts)) high_is
          ∙ ap (plain.For (bound_value low) (bound_value high)) (reads.tree_is ∙ ap (λ s. block_of s body) inner_is);
      found =
          reads.found ∙ ap (λ z. z ++ block_findings inner all body) second
          ∙ ap (λ s. ((b ++ fs) ++ gs) ++ block_findings s all body) inner_is
          ∙ ap (λ n. ((b ++ fs) ++ gs) ++ block_findings (with_loop scope x) n body)
          (all_is ∙ ap (turns_with_outer around) turns_are)
          ∙ ap (λ z. z ++ hs) (append_assoc b fs gs) ∙ append_assoc b (fs ++ gs) hs;
    })
