-- Symbols of actions: a row of its symbol builds each tree that terminals spell, unless the symbol is omitted. For
-- the proof that a text has one tree.
use Rattle.std.proofs.Common.{ℤ, Bool, true, false, sym, refl, List, [], ◌∷◌, append_assoc, inl, inr}
use Rattle.std.proofs.lemmas.List.{append-nil}
use Rattle.aadl_tree.specs.Terminals.{PlainTerminal}
use Rattle.aadl_tree.specs.SpellingParts.{may, last_semicolon, Spells}
use Rattle.aadl_tree.specs.Names as n
use Rattle.aadl_tree.specs.Actions as a
use Rattle.aadl_grammar.specs.proof.GrammarSymbols as s
use Rattle.aadl_grammar.specs.proof.ParseTable.{rows}
use Rattle.aadl_grammar.specs.proof.SymbolTrees.{parts}
use Rattle.aadl_grammar.proofs.DerivationTrees.TreeBuilders.{respell, InRows, behind_opens, uses, Opens, OpensOr}
use Rattle.aadl_grammar.proofs.ProductionTrees.Actions.{test_builders, whole_number_builders, bound_builders}
use Rattle.aadl_grammar.proofs.ProductionTrees.Actions.{after_target_builders, loop_head_builders, action_builders}
use Rattle.aadl_grammar.proofs.ProductionTrees.Actions.{actions_builders, actions_joins, mores_builders}
use Rattle.aadl_grammar.proofs.ProductionTrees.Actions.{after_semicolon_builders, after_semicolon_joins}
use Rattle.aadl_grammar.proofs.ProductionTrees.Actions.{elsifs_builders, otherwise_builders, end_if_builders}
use Rattle.aadl_grammar.proofs.ProductionTrees.Actions.{closing_if_builders, block_builders, body_builders, body_joins}
use Rattle.aadl_grammar.proofs.ProductionSoundness.Actions.{loop_same}

pub test_opens : Opens s.test test_builders
test_opens t ks rest (more, e, sp) = inl (uses tt (t, (tt, tt)) more e sp)

pub whole_number_opens : Opens s.whole_number whole_number_builders
whole_number_opens t ks rest (more, e, sp) = inl (uses t tt more e sp)

bound_by : (b : Bool) (z : ℤ) (ks rest : List PlainTerminal)
    → Spells (parts s.bound (record { negative = b; value = z })) ks rest
    → InRows s.bound (rows s.bound) bound_builders (record { negative = b; value = z }) ks rest
bound_by false z ks rest (more, e, sp) = inl (uses z tt more e sp)
bound_by true z ks rest (more, e, sp) = inr (inl (uses tt (z, tt) more e sp))

pub bound_opens : Opens s.bound bound_builders
bound_opens t ks rest sp = bound_by t.negative t.value ks rest sp

pub after_target_opens : Opens s.after_target after_target_builders
after_target_opens (inl x) ks rest (more, e, sp) = inl (uses tt (x, tt) more e sp)
after_target_opens (inr x) ks rest (more, e, sp) = inr (inl (uses tt (x, tt) more e sp))

pub loop_head_opens : Opens s.loop_head loop_head_builders
loop_head_opens t ks rest (more, e, sp) =
    inl (uses tt (t.counter, (tt, (t.data_type, (tt, (t.low, (tt, (t.high, (tt, tt)))))))) more e sp)

pub action_opens : Opens s.action action_builders
action_opens (a.assign x y) ks rest (more, e, sp) = inl (uses x.spelling (inl y, tt) more e sp)
action_opens (a.send x y) ks rest (more, e, sp) = inl (uses x.spelling (inr y, tt) more e sp)
action_opens (a.choose x y z o) ks rest (more, e, sp) = inr (inl (uses tt (x, (y, (z, (o, (tt, tt))))) more e sp))
action_opens (a.loop at x y low high body) ks rest (more, e, (l, i, sp)) =
    inr (inr (inl (uses tt (record { counter = x; data_type = y; low = low; high = high }, (body, tt)) more e (
      l,
      i,
      respell _ _ l rest
          (sym (loop_same (n.identifier_parts x) (n.reference_parts y) (a.bound_parts low) (a.bound_parts high)
          (a.block_parts body))) sp,
    ))))

pub actions_opens : Opens s.actions actions_builders
actions_opens (a.actions x y) ks rest sp =
    behind_opens s.actions s.action (s.mores ∷ []) (rows s.action) actions_joins action_builders x (y, tt) ks rest
    (action_opens x ks) sp

pub mores_opens : OpensOr s.mores mores_builders a.no_mores
mores_opens a.no_mores ks rest (inl e) = inr (refl, e)
mores_opens a.no_mores ks rest (inr (more, e, sp)) = inl (inl (uses tt (a.no_block, tt) more e sp))
mores_opens (a.more x y) ks rest (more, e, sp) =
    inl (inl (uses tt (a.block (a.actions x y), tt) more e
    (respell _ _ more rest (append_assoc (a.action_parts x) (a.mores_parts y) (may last_semicolon ∷ [])) sp)))

pub after_semicolon_opens : OpensOr s.after_semicolon after_semicolon_builders a.no_block
after_semicolon_opens a.no_block ks rest e = inr (refl, e)
after_semicolon_opens (a.block x) ks rest sp =
    inl (behind_opens s.after_semicolon s.actions [] (rows s.actions) after_semicolon_joins actions_builders x tt ks
    rest (actions_opens x ks) (respell _ _ ks rest (sym (append-nil (parts s.actions x))) sp))

pub elsifs_opens : OpensOr s.elsifs elsifs_builders a.no_elsifs
elsifs_opens a.no_elsifs ks rest e = inr (refl, e)
elsifs_opens (a.elsif x y z) ks rest (more, e, sp) = inl (inl (uses tt (x, (y, (z, tt))) more e sp))

pub otherwise_opens : OpensOr s.otherwise otherwise_builders a.no_otherwise
otherwise_opens a.no_otherwise ks rest e = inr (refl, e)
otherwise_opens (a.otherwise x) ks rest (more, e, sp) = inl (inl (uses tt (x, tt) more e sp))

pub end_if_opens : Opens s.end_if end_if_builders
end_if_opens t ks rest (more, e, sp) = inl (uses tt (tt, tt) more e sp)

pub closing_if_opens : Opens s.closing_if closing_if_builders
closing_if_opens t ks rest (more, e, sp) = inl (uses tt tt more e sp)

pub block_opens : Opens s.block block_builders
block_opens a.no_block ks rest (more, e, sp) = inl (uses tt (a.no_block, (tt, tt)) more e sp)
block_opens (a.block x) ks rest (more, e, sp) = inl (uses tt (a.block x, (tt, tt)) more e sp)

pub body_opens : OpensOr s.body body_builders a.no_block
body_opens a.no_block ks rest e = inr (refl, e)
body_opens (a.block x) ks rest sp =
    inl (behind_opens s.body s.actions [] (rows s.actions) body_joins actions_builders x tt ks rest (actions_opens x ks)
    (respell _ _ ks rest (sym (append-nil (parts s.actions x))) sp))
