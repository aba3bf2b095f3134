-- Values and properties that terminals spell can be given the places of these terminals. For the law that a text has
-- a tree or a fault.
use Rattle.std.proofs.Common.{ℕ, sym, List, [], ◌∷◌, ◌++◌, flat_map}
use Rattle.aadl_tree.specs.declared.mark.Mark.TheVariants as k
use Rattle.aadl_tree.specs.Terminals.{whole, real, quoted, mark}
use Rattle.aadl_tree.specs.SpellingParts.{token, marked_if, parts_if, behind}
use Rattle.aadl_grammar.proofs.PlaceFilling.FilledTrees.{U, Fills, split, cut, nil, joined, consed, option_fill}
use Rattle.aadl_grammar.proofs.PlaceFilling.FilledTrees.{chain_fill, marked_fill}
use Rattle.aadl_tree.specs.declared.expressions.Sign.{Sign}
use Rattle.aadl_tree.specs.Names as n
use Rattle.aadl_tree.specs.Values as v
use Rattle.aadl_grammar.proofs.PlaceFilling.Names.{identifier_fill, name_fill, path_fill, reference_fill}

sign_fill : Fills Sign Sign v.sign_parts v.sign_parts
sign_fill t b l =
    let s0 = cut (mark (v.sign_mark t)) [] (b) (l) in
    record { tree = t; is = consed (sym (nil (s0.back) (s0.rest))) (s0.is) }

figure_fill : Fills v.UnsignedNumber v.UnsignedNumber v.figure_parts v.figure_parts
figure_fill (v.whole_figure z) b l =
    let s0 = cut (whole z) [] (b) (l) in
    record { tree = v.whole_figure z; is = consed (sym (nil (s0.back) (s0.rest))) (s0.is) }
figure_fill (v.real_figure z) b l =
    let s0 = cut (real z) [] (b) (l) in
    record { tree = v.real_figure z; is = consed (sym (nil (s0.back) (s0.rest))) (s0.is) }

number_fill : Fills v.Number v.Number v.number_parts v.number_parts
number_fill t b l =
    let s0 = split (parts_if (v.sign_parts) t.sign) (v.figure_parts t.figure) (b) (l) in
    let r1 = option_fill (v.sign_parts) (v.sign_parts) (sign_fill) t.sign s0.front s0.first in
    let r2 = figure_fill t.figure (s0.back) (s0.second) in
    record { tree = record { sign = r1.tree; figure = r2.tree }; is = joined (r1.is) (r2.is) (s0.is) }

pub quantity_fill : Fills (v.Quantity U) (v.Quantity ℕ) v.quantity_parts v.quantity_parts
quantity_fill t b l =
    let s0 = split (v.number_parts t.number) (parts_if (n.identifier_parts) t.unit) (b) (l) in
    let r1 = number_fill t.number s0.front s0.first in
    let r2 = option_fill (n.identifier_parts) (n.identifier_parts) (identifier_fill) t.unit (s0.back) (s0.second) in
    record { tree = record { number = r1.tree; unit = r2.tree }; is = joined (r1.is) (r2.is) (s0.is) }

pub ranged_fill : Fills (v.Quantity U) (v.Quantity ℕ) (behind k.Range v.quantity_parts)
    (behind k.Range v.quantity_parts)
ranged_fill t b l =
    let s0 = cut (mark k.Range) (v.quantity_parts t) (b) (l) in
    let r1 = quantity_fill t (s0.back) (s0.rest) in
    record { tree = r1.tree; is = consed (r1.is) (s0.is) }

pub applies_fill : Fills (List (n.Path U)) (List (n.Path ℕ)) v.applies_parts v.applies_parts
applies_fill [] b l =
    record { tree = []; is = sym (nil (b) (l)) }
applies_fill (t ∷ ts) b l =
    let s0 =
    cut (mark k.Applies) (token (mark k.To) []
    ∷ (n.path_parts t ++ (flat_map (behind k.Comma n.path_parts) ts))) (b) (l) in
    let s1 = cut (mark k.To) (n.path_parts t ++ (flat_map (behind k.Comma n.path_parts) ts)) (s0.back) (s0.rest) in
    let s2 = split (n.path_parts t) (flat_map (behind k.Comma n.path_parts) ts) (s1.back) (s1.rest) in
    let r1 = path_fill t s2.front s2.first in
    let r2 = chain_fill k.Comma n.path_parts n.path_parts (path_fill) ts (s2.back) (s2.second) in
    record { tree = r1.tree ∷ r2.tree; is = consed (consed (joined (r1.is) (r2.is) (s2.is)) (s1.is)) (s0.is) }

mutual
  pub value_fill : Fills (v.Value U) (v.Value ℕ) v.value_parts v.value_parts
  value_fill (v.list t) b l =
      let s0 = cut (mark k.ParenOpen) (v.values_parts t ++ (token (mark k.ParenClose) [] ∷ [])) (b) (l) in
      let s1 = split (v.values_parts t) (token (mark k.ParenClose) [] ∷ []) (s0.back) (s0.rest) in
      let r1 = values_fill t s1.front s1.first in
      let s2 = cut (mark k.ParenClose) [] (s1.back) (s1.second) in
      record {
        tree = v.list r1.tree;
        is = consed (joined (r1.is) (consed (sym (nil (s2.back) (s2.rest))) (s2.is)) (s1.is)) (s0.is);
      }
  value_fill (v.fields t) b l =
      let s0 = cut (mark k.BracketOpen) (v.associations_parts t ++ (token (mark k.BracketClose) [] ∷ [])) (b) (l) in
      let s1 = split (v.associations_parts t) (token (mark k.BracketClose) [] ∷ []) (s0.back) (s0.rest) in
      let r1 = associations_fill t s1.front s1.first in
      let s2 = cut (mark k.BracketClose) [] (s1.back) (s1.second) in
      record {
        tree = v.fields r1.tree;
        is = consed (joined (r1.is) (consed (sym (nil (s2.back) (s2.rest))) (s2.is)) (s1.is)) (s0.is);
      }
  value_fill (v.text t) b l =
      let s0 = cut (quoted t) [] (b) (l) in
      record { tree = v.text t; is = consed (sym (nil (s0.back) (s0.rest))) (s0.is) }
  value_fill (v.reference t) b l =
      let s0 =
      cut (mark k.Reference) (token (mark k.ParenOpen) []
      ∷ (n.path_parts t ++ (token (mark k.ParenClose) [] ∷ []))) (b) (l) in
      let s1 = cut (mark k.ParenOpen) (n.path_parts t ++ (token (mark k.ParenClose) [] ∷ [])) (s0.back) (s0.rest) in
      let s2 = split (n.path_parts t) (token (mark k.ParenClose) [] ∷ []) (s1.back) (s1.rest) in
      let r1 = path_fill t s2.front s2.first in
      let s3 = cut (mark k.ParenClose) [] (s2.back) (s2.second) in
      record {
        tree = v.reference r1.tree;
        is = consed (consed (joined (r1.is) (consed (sym (nil (s3.back) (s3.rest))) (s3.is)) (s2.is))
            (s1.is)) (s0.is);
      }
  value_fill (v.classifier t) b l =
      let s0 =
      cut (mark k.Classifier) (token (mark k.ParenOpen) []
      ∷ (n.reference_parts t ++ (token (mark k.ParenClose) [] ∷ []))) (b) (l) in
      let s1 =
      cut (mark k.ParenOpen) (n.reference_parts t ++ (token (mark k.ParenClose) [] ∷ [])) (s0.back) (s0.rest) in
      let s2 = split (n.reference_parts t) (token (mark k.ParenClose) [] ∷ []) (s1.back) (s1.rest) in
      let r1 = reference_fill t s2.front s2.first in
      let s3 = cut (mark k.ParenClose) [] (s2.back) (s2.second) in
      record {
        tree = v.classifier r1.tree;
        is = consed (consed (joined (r1.is) (consed (sym (nil (s3.back) (s3.rest))) (s3.is)) (s2.is))
            (s1.is)) (s0.is);
      }
  value_fill (v.named t) b l =
      let r1 = reference_fill t (b) (l) in
      record { tree = v.named r1.tree; is = r1.is }
  value_fill (v.number t u) b l =
      let s0 = split (v.quantity_parts t) (parts_if (behind k.Range v.quantity_parts) u) (b) (l) in
      let r1 = quantity_fill t s0.front s0.first in
      let r2 =
      option_fill (behind k.Range v.quantity_parts) (behind k.Range v.quantity_parts) (ranged_fill) u (s0.back)
      (s0.second) in
      record { tree = v.number r1.tree r2.tree; is = joined (r1.is) (r2.is) (s0.is) }

  pub values_fill : Fills (v.Values U) (v.Values ℕ) v.values_parts v.values_parts
  values_fill v.no_values b l =
      record { tree = v.no_values; is = sym (nil (b) (l)) }
  values_fill (v.value t u) b l =
      let s0 = split (v.value_parts t) (v.more_values_parts u) (b) (l) in
      let r1 = value_fill t s0.front s0.first in
      let r2 = more_values_fill u (s0.back) (s0.second) in
      record { tree = v.value r1.tree r2.tree; is = joined (r1.is) (r2.is) (s0.is) }

  pub more_values_fill : Fills (v.Values U) (v.Values ℕ) v.more_values_parts v.more_values_parts
  more_values_fill v.no_values b l =
      record { tree = v.no_values; is = sym (nil (b) (l)) }
  more_values_fill (v.value t u) b l =
      let s0 = cut (mark k.Comma) (v.value_parts t ++ (v.more_values_parts u)) (b) (l) in
      let s1 = split (v.value_parts t) (v.more_values_parts u) (s0.back) (s0.rest) in
      let r1 = value_fill t s1.front s1.first in
      let r2 = more_values_fill u (s1.back) (s1.second) in
      record { tree = v.value r1.tree r2.tree; is = consed (joined (r1.is) (r2.is) (s1.is)) (s0.is) }

  pub association_fill : Fills (v.Association U) (v.Association ℕ) v.association_parts v.association_parts
  association_fill (v.association a o c t ps) b l =
      let s0 =
      split (n.name_parts a) (token (mark (v.association_mark o)) []
      ∷ (marked_if k.Constant c
      ++ (v.value_parts t ++ (v.applies_parts ps ++ (token (mark k.Semicolon) [] ∷ []))))) (b) (l) in
      let r1 = name_fill a s0.front s0.first in
      let s1 =
      cut (mark (v.association_mark o))
      (marked_if k.Constant c ++ (v.value_parts t ++ (v.applies_parts ps ++ (token (mark k.Semicolon) [] ∷ []))))
      (s0.back) (s0.second) in
      let s2 =
      split (marked_if k.Constant c) (v.value_parts t ++ (v.applies_parts ps ++ (token (mark k.Semicolon) [] ∷ [])))
      (s1.back) (s1.rest) in
      let r2 = marked_fill k.Constant c s2.front s2.first in
      let s3 =
      split (v.value_parts t) (v.applies_parts ps ++ (token (mark k.Semicolon) [] ∷ [])) (s2.back) (s2.second) in
      let r3 = value_fill t s3.front s3.first in
      let s4 = split (v.applies_parts ps) (token (mark k.Semicolon) [] ∷ []) (s3.back) (s3.second) in
      let r4 = applies_fill ps s4.front s4.first in
      let s5 = cut (mark k.Semicolon) [] (s4.back) (s4.second) in
      record {
        tree = v.association r1.tree o r2.tree r3.tree r4.tree;
        is = joined (r1.is) (consed
            (joined (r2.is) (joined (r3.is) (joined (r4.is) (consed (sym (nil (s5.back) (s5.rest))) (s5.is)) (s4.is))
            (s3.is)) (s2.is)) (s1.is)) (s0.is);
      }

  pub associations_fill : Fills (v.Associations U) (v.Associations ℕ) v.associations_parts v.associations_parts
  associations_fill v.no_associations b l =
      record { tree = v.no_associations; is = sym (nil (b) (l)) }
  associations_fill (v.associate t u) b l =
      let s0 = split (v.association_parts t) (v.associations_parts u) (b) (l) in
      let r1 = association_fill t s0.front s0.first in
      let r2 = associations_fill u (s0.back) (s0.second) in
      record { tree = v.associate r1.tree r2.tree; is = joined (r1.is) (r2.is) (s0.is) }

pub properties_fill : Fills (v.Associations U) (v.Associations ℕ) v.properties_parts v.properties_parts
properties_fill v.no_associations b l =
    record { tree = v.no_associations; is = sym (nil (b) (l)) }
properties_fill (v.associate t u) b l =
    let s0 = cut (mark k.BraceOpen) (v.associations_parts (v.associate t u) ++ token (mark k.BraceClose) [] ∷ []) b l in
    let s1 = split (v.associations_parts (v.associate t u)) (token (mark k.BraceClose) [] ∷ []) s0.back s0.rest in
    let s2 = split (v.association_parts t) (v.associations_parts u) s1.front s1.first in
    let r1 = association_fill t s2.front s2.first in
    let r2 = associations_fill u s2.back s2.second in
    let s3 = cut (mark k.BraceClose) [] s1.back s1.second in
    record {
      tree = v.associate r1.tree r2.tree;
      is = consed (joined (joined r1.is r2.is s2.is) (consed (sym (nil s3.back s3.rest)) s3.is) s1.is) s0.is;
    }
