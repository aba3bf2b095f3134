use Rattle.answer_laws.proofs.accepted_designs.accepted_designs_keep_their_rules.Goals as goal

pub returns-clause-rules : goal.returns-clause-rules
returns-clause-rules c root bundle design scenario x =
    c.designs_of_texts_keep_their_rules.ensures.rules x.tree root design (x.text, x.parsed.read) x.design_in

pub returns-clause-there : goal.returns-clause-there
returns-clause-there c root bundle text scenario tree parts parsed flat nothing =
    let d = c.designs_of_texts_keep_their_rules.ensures.there tree root parts (text, parsed.read) flat nothing in
    (d.0, scenario, record { text = text; tree = tree; parsed = parsed; design_in = d.1 })
