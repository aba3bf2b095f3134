use Rattle.std.proofs.Common.{length}
use Rattle.aadl_lex.proofs.TokenOrder.{order_tokens, order_each}
use Rattle.aadl_lex.proofs.tokens_in_order.Goals as goal

pub returns-clause-order : goal.returns-clause-order
returns-clause-order c = order_tokens

pub returns-clause-within : goal.returns-clause-within
returns-clause-within c text ts h = order_each 0 (length text) ts (order_tokens text ts h)
