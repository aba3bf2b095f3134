-- The port that an end of a connection names, with one word or two, from earlier look-ups of ports and subcomponents.
use Rattle.std.proofs.Common.{◌≡◌, ℕ, List, Option, Some, None, slice_get, option_map, sym, ap, ◌∙◌}
use Rattle.std.specs.Option.{option_and_then}
use Rattle.std.proofs.lemmas.Option.{none-some, same_Some}
use Rattle.list_lemmas.proofs.Options.{option_and_then_assoc}
use Rattle.aadl_tree.specs.Names.{Identifier}
use Rattle.aadl_tree.specs.Declarations.{Subcomponent, ConnectionEnd, Implementation, Declaration, type, implementation}
use Rattle.aadl_tree.specs.Declarations.{PackageTree}
use Rattle.aadl_names.specs.proof.MemberNumbers.{member_of}
use Rattle.aadl_names.specs.declared.numbered_port.NumberedPort.TheVariants.{Own, Inner}
use Rattle.aadl_names.specs.NameResolution.{implementation_in, implementation_at, subcomponents_of, referred}
use Rattle.aadl_names.specs.NameResolution.{target_of, port_named, sub_named, ports_at, inner_end_port, end_port_by}
use Rattle.aadl_names.specs.NameResolution.{end_port}
use Rattle.aadl_uses.specs.ContainmentAndUse.{below}

member_is : (name : List ℕ) (x : Implementation ℕ) (o : Option (Declaration ℕ)) → implementation_in o ≡ Some x
    → member_of o name ≡ sub_named x.subcomponents name
member_is name x None e = absurd (none-some x e)
member_is name x (Some (type y)) e = absurd (none-some x e)
member_is name x (Some (implementation y)) e =
    ap (λ (z : Implementation ℕ). sub_named z.subcomponents name) (same_Some y x e)

module _ (tree : PackageTree ℕ) (n : ℕ) (x : Implementation ℕ) (end : ConnectionEnd ℕ)
    (is : implementation_at tree n ≡ Some x) where
  -- the ports that an end with one word and an end with two words name
  one : end.second ≡ None → end_port tree x end
      ≡ option_map Own (port_named (ports_at tree (Some x)) end.first.spelling)
  unfolding end_port
  one none = ap (end_port_by tree x end.first) none

  two : (port : Identifier ℕ) → end.second ≡ Some port
      → end_port tree x end ≡ option_and_then (inner_end_port tree x port.spelling)
      (sub_named x.subcomponents end.first.spelling)
  unfolding end_port
  two port some = ap (end_port_by tree x end.first) some

  pub own_is : end.second ≡ None
      → option_map Own (port_named (ports_at tree (implementation_at tree n)) end.first.spelling) ≡ end_port tree x end
  own_is none = ap (λ o. option_map Own (port_named (ports_at tree o) end.first.spelling)) is ∙ sym (one none)

  stands_below : (s : ℕ) → option_and_then (implementation_at tree) (below tree n s)
      ≡ option_and_then (target_of tree) (slice_get x.subcomponents s)
  stands_below s =
      ap (λ o. option_and_then (implementation_at tree)
      (option_and_then (λ (sub : Subcomponent ℕ). referred tree sub.classifier)
      (slice_get (subcomponents_of o) s))) is
      ∙ option_and_then_assoc (λ (sub : Subcomponent ℕ). referred tree sub.classifier) (implementation_at tree)
      (slice_get x.subcomponents s)

  pub inner_is : (port : Identifier ℕ) (s : ℕ) → end.second ≡ Some port
      → member_of (slice_get tree.declarations n) end.first.spelling ≡ Some s
      → option_map (Inner s) (port_named (ports_at tree (option_and_then (implementation_at tree) (below tree n s)))
      port.spelling) ≡ end_port tree x end
  inner_is port s some found =
      ap (λ o. option_map (Inner s) (port_named (ports_at tree o) port.spelling)) (stands_below s)
      ∙ sym (two port some
      ∙ ap (option_and_then (inner_end_port tree x port.spelling))
      (sym (member_is end.first.spelling x (slice_get tree.declarations n) is) ∙ found))

  pub none_is : (port : Identifier ℕ) → end.second ≡ Some port
      → member_of (slice_get tree.declarations n) end.first.spelling ≡ None → None ≡ end_port tree x end
  none_is port some none =
      sym (two port some
      ∙ ap (option_and_then (inner_end_port tree x port.spelling))
      (sym (member_is end.first.spelling x (slice_get tree.declarations n) is) ∙ none))
