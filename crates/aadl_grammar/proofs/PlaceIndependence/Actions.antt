-- Actions that differ only in their places have the same spelling. For the proof that a text has one tree.
use Rattle.std.proofs.Common.{refl}
use Rattle.aadl_tree.specs.declared.actions.Bound.{Bound}
use Rattle.aadl_tree.specs.declared.mark.Mark.TheVariants as k
use Rattle.aadl_tree.specs.Expressions as e
use Rattle.aadl_tree.specs.Actions as a
use Rattle.aadl_tree.specs.proof.PlaceMaps.{action_to, actions_to, block_to, elsifs_to, expression_to, mores_to}
use Rattle.aadl_tree.specs.proof.PlaceMaps.{otherwise_to}
use Rattle.aadl_grammar.proofs.PlaceIndependence.AlikeParts.{Alike, none, one, extra, both, marked}
use Rattle.aadl_grammar.proofs.PlaceIndependence.NamesAndValues.{reference_alike}
use Rattle.aadl_grammar.proofs.PlaceIndependence.Expressions.{expression_alike}

test_alike : {P Q : Type 0} (f : P → Q) (t : e.Expression P)
    → Alike f (a.test_parts t) (a.test_parts (expression_to f t))
test_alike f t = one refl (both (expression_alike f t) (one refl none))

bound_alike : {P Q : Type 0} {f : P → Q} (t : Bound) → Alike f (a.bound_parts t) (a.bound_parts t)
bound_alike t = both (marked k.Minus t.negative) (one refl none)

mutual
  pub action_alike : {P Q : Type 0} (f : P → Q) (t : a.Action P)
      → Alike f (a.action_parts t) (a.action_parts (action_to f t))
  action_alike f (a.assign t u) = one refl (one refl (expression_alike f u))
  action_alike f (a.send t u) = one refl (one refl (one refl (both (expression_alike f u) (one refl none))))
  action_alike f (a.choose t u w o) =
      one refl (both (test_alike f t)
      (both (actions_alike f u) (both (elsifs_alike f w) (both (otherwise_alike f o) (one refl (one refl none))))))
  action_alike f (a.loop at t u low high w) =
      one refl (one refl (one refl
      (one refl (both (reference_alike f u)
      (one refl (both (bound_alike low) (one refl (both (bound_alike high) (one refl (block_alike f w))))))))))

  pub actions_alike : {P Q : Type 0} (f : P → Q) (t : a.Actions P)
      → Alike f (a.actions_parts t) (a.actions_parts (actions_to f t))
  actions_alike f (a.actions t u) = both (action_alike f t) (both (mores_alike f u) (extra none))

  pub mores_alike : {P Q : Type 0} (f : P → Q) (t : a.Mores P)
      → Alike f (a.mores_parts t) (a.mores_parts (mores_to f t))
  mores_alike f a.no_mores = none
  mores_alike f (a.more t u) = one refl (both (action_alike f t) (mores_alike f u))

  pub elsifs_alike : {P Q : Type 0} (f : P → Q) (t : a.Elsifs P)
      → Alike f (a.elsifs_parts t) (a.elsifs_parts (elsifs_to f t))
  elsifs_alike f a.no_elsifs = none
  elsifs_alike f (a.elsif t u w) = one refl (both (test_alike f t) (both (actions_alike f u) (elsifs_alike f w)))

  pub otherwise_alike : {P Q : Type 0} (f : P → Q) (t : a.Otherwise P)
      → Alike f (a.otherwise_parts t) (a.otherwise_parts (otherwise_to f t))
  otherwise_alike f a.no_otherwise = none
  otherwise_alike f (a.otherwise t) = one refl (actions_alike f t)

  pub block_alike : {P Q : Type 0} (f : P → Q) (t : a.Block P)
      → Alike f (a.block_parts t) (a.block_parts (block_to f t))
  block_alike f a.no_block = one refl (one refl none)
  block_alike f (a.block t) = one refl (both (actions_alike f t) (one refl none))
