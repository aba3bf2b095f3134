use Rattle.std.proofs.Common.{◌∙◌, ◌∷◌, [], ◌++◌, ap, sym, flat_map}
use Rattle.aadl_tree.specs.Declarations.{section_parts}
use Rattle.aadl_grammar.specs.proof.ParserAnswers.{here}
use Rattle.aadl_grammar.proofs.ParserFaults.{along, exits, no_reads}
use Rattle.aadl_grammar.proofs.ListAnswers.{list_from}
use Rattle.aadl_grammar.proofs.DeclarationSections.{section_left_out, section_empty, section_first, before_semicolon}
use Rattle.aadl_grammar.proofs.DeclarationSections.{before_list, before_item, no_section, empty_section_read}
use Rattle.aadl_grammar.proofs.DeclarationSections.{filled_section_read}
use Rattle.aadl_grammar.proofs.lists.section.Goals as goal

pub returns-in_default : goal.returns-in_default
returns-in_default g c kind symbol of e is = record {
  runs =
      λ outer below h. section_left_out is outer c.args.reader.now.end below (here c.args.reader.now c.args.at)
      c.in_default.ensures;
  reads = no_section kind (ap (λ l. flat_map of.parts l) (sym c.new-found.ensures.items));
}

pub returns-in_err-end : goal.returns-in_err-end
returns-in_err-end g c kind symbol of e is = record {
  runs =
      λ outer below h. exits _ _ _ _ _ _ _ c.from_residual.ensures.1
      (along _ _ _ (section_empty is of.allowed outer c.args.reader.now.end below c.in-Some.ensures
      c.in-Some-take.ensures h)
      (c.in_err-end.ensures.runs outer below (before_semicolon symbol of.allowed outer below h)));
  reads = no_reads _ _ _ c.from_residual.ensures.1;
}

pub returns-in-Some-take : goal.returns-in-Some-take
returns-in-Some-take g c kind symbol of e is = record {
  runs =
      λ outer below h. section_empty is of.allowed outer c.args.reader.now.end below c.in-Some.ensures
      c.in-Some-take.ensures h
      ∙ c.in_ok-end.ensures.runs outer below (before_semicolon symbol of.allowed outer below h);
  reads =
      empty_section_read kind c.args.keyword e (ap (λ l. flat_map of.parts l) (sym c.new-found.ensures.items))
      c.in-Some.ensures c.in-Some-take.ensures c.in_ok-end.ensures.reads;
}

pub returns-in_err-first : goal.returns-in_err-first
returns-in_err-first g c kind symbol of e is = record {
  runs =
      λ outer below h. exits _ _ _ _ _ _ _ c.from_residual-in_err-first.ensures.1
      (along _ _ _ (section_first is of.allowed outer c.args.reader.now.end below c.in-Some.ensures
      c.in_default-take.ensures h)
      ((of.each c.in-Some.next _ c.in_err-first.ensures).runs outer (of.list ∷ below)
      (before_item is of.lists of.allowed outer below h)));
  reads = no_reads _ _ _ c.from_residual-in_err-first.ensures.1;
}

pub returns : goal.returns
returns g c kind symbol of e is =
    list_from of c.in_ok-first.first (λ l. section_parts kind (flat_map of.parts l))
    (c.in_ok-push.ensures.items ∙ ap (λ l. l ++ c.in_ok-first.first ∷ []) c.new-found.ensures.items)
    (λ outer below h. (
      before_list is of.allowed outer below h,
      section_first is of.allowed outer c.args.reader.now.end below c.in-Some.ensures c.in_default-take.ensures h
          ∙ (of.each c.in-Some.next _ c.in_ok-first.ensures).runs outer (of.list ∷ below)
          (before_item is of.lists of.allowed outer below h),
    ))
    (λ more rest a. filled_section_read kind c.args.keyword (of.parts c.in_ok-first.first) (flat_map of.parts more) e
    c.in-Some.ensures (of.each c.in-Some.next _ c.in_ok-first.ensures).reads
    (c.requires.advances c.in-Some.next _ c.in_ok-first.ensures) a)
    c.followers.ensures
