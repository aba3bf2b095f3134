use Rattle.std.proofs.Common.{sym, arith}
use Rattle.aadl_names.proofs.UnequalWordLists.{words_differ}
use Rattle.aadl_names.proofs.package_names.same_words.Goals as goal

pub returns-then-a-b : goal.returns-then-a-b
returns-then-a-b c = sym (words_differ c.args.a.now c.args.b.now (omega arith))
