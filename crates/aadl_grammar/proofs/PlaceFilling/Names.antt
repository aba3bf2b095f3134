-- Names and references that terminals spell can be given the places of these terminals. For the law that a text has a
-- tree or a fault.
use Rattle.std.proofs.Common.{ℕ, sym, [], ◌∷◌, ◌++◌, flat_map}
use Rattle.aadl_tree.specs.declared.mark.Mark.TheVariants as k
use Rattle.aadl_tree.specs.Terminals.{word, mark}
use Rattle.aadl_tree.specs.SpellingParts.{token, parts_if, behind}
use Rattle.aadl_grammar.proofs.PlaceFilling.FilledTrees.{U, Fills, split, cut, cut_at, nil, joined, consed, list_fill}
use Rattle.aadl_grammar.proofs.PlaceFilling.FilledTrees.{option_fill, chain_fill}
use Rattle.aadl_tree.specs.Names as n

pub identifier_fill : Fills (n.Identifier U) (n.Identifier ℕ) n.identifier_parts n.identifier_parts
identifier_fill t b l =
    let s0 = cut_at (word t.spelling) (t.at) [] (b) (l) in
    let at = s0.at in
    record { tree = record { at = at; spelling = t.spelling }; is = consed (sym (nil (s0.back) (s0.rest))) (s0.is) }

pub name_fill : Fills (n.Name U) (n.Name ℕ) n.name_parts n.name_parts
name_fill t b l =
    let s0 = split (n.identifier_parts t.first) (flat_map (behind k.Scope n.identifier_parts) t.rest) (b) (l) in
    let r1 = identifier_fill t.first s0.front s0.first in
    let r2 = chain_fill k.Scope n.identifier_parts n.identifier_parts (identifier_fill) t.rest (s0.back) (s0.second) in
    record { tree = record { first = r1.tree; rest = r2.tree }; is = joined (r1.is) (r2.is) (s0.is) }

pub path_fill : Fills (n.Path U) (n.Path ℕ) n.path_parts n.path_parts
path_fill t b l =
    let s0 = split (n.identifier_parts t.first) (flat_map (behind k.Dot n.identifier_parts) t.rest) (b) (l) in
    let r1 = identifier_fill t.first s0.front s0.first in
    let r2 = chain_fill k.Dot n.identifier_parts n.identifier_parts (identifier_fill) t.rest (s0.back) (s0.second) in
    record { tree = record { first = r1.tree; rest = r2.tree }; is = joined (r1.is) (r2.is) (s0.is) }

pub identifiers_fill : Fills (n.Identifiers U) (n.Identifiers ℕ) n.identifiers_parts n.identifiers_parts
identifiers_fill t b l =
    let s0 = split (n.identifier_parts t.first) (flat_map (behind k.Comma n.identifier_parts) t.rest) (b) (l) in
    let r1 = identifier_fill t.first s0.front s0.first in
    let r2 = chain_fill k.Comma n.identifier_parts n.identifier_parts (identifier_fill) t.rest (s0.back) (s0.second) in
    record { tree = record { first = r1.tree; rest = r2.tree }; is = joined (r1.is) (r2.is) (s0.is) }

pub qualifier_fill : Fills (n.Identifier U) (n.Identifier ℕ) n.qualifier_parts n.qualifier_parts
qualifier_fill t b l =
    let s0 = split (n.identifier_parts t) (token (mark k.Scope) [] ∷ []) (b) (l) in
    let r1 = identifier_fill t s0.front s0.first in
    let s1 = cut (mark k.Scope) [] (s0.back) (s0.second) in
    record { tree = r1.tree; is = joined (r1.is) (consed (sym (nil (s1.back) (s1.rest))) (s1.is)) (s0.is) }

pub dotted_fill : Fills (n.Identifier U) (n.Identifier ℕ) (behind k.Dot n.identifier_parts)
    (behind k.Dot n.identifier_parts)
dotted_fill t b l =
    let s0 = cut (mark k.Dot) (n.identifier_parts t) (b) (l) in
    let r1 = identifier_fill t (s0.back) (s0.rest) in
    record { tree = r1.tree; is = consed (r1.is) (s0.is) }

pub reference_fill : Fills (n.Reference U) (n.Reference ℕ) n.reference_parts n.reference_parts
reference_fill t b l =
    let s0 =
    split (flat_map (n.qualifier_parts) t.qualifiers)
    (n.identifier_parts t.type_name ++ (parts_if (behind k.Dot n.identifier_parts) t.implementation)) (b) (l) in
    let r1 = list_fill (n.qualifier_parts) (n.qualifier_parts) (qualifier_fill) t.qualifiers s0.front s0.first in
    let s1 =
    split (n.identifier_parts t.type_name) (parts_if (behind k.Dot n.identifier_parts) t.implementation) (s0.back)
    (s0.second) in
    let r2 = identifier_fill t.type_name s1.front s1.first in
    let r3 =
    option_fill (behind k.Dot n.identifier_parts) (behind k.Dot n.identifier_parts) (dotted_fill) t.implementation
    (s1.back) (s1.second) in
    record {
      tree = record { qualifiers = r1.tree; type_name = r2.tree; implementation = r3.tree };
      is = joined (r1.is) (joined (r2.is) (r3.is) (s1.is)) (s0.is);
    }
