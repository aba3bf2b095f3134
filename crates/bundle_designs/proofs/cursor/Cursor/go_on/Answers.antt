use Rattle.std.proofs.Common.{arith}
use Rattle.bundle_designs.proofs.ColumnsWithinText.{behind_within}
use Rattle.bundle_designs.proofs.cursor.Cursor.go_on.Goals as goal

pub overflow_add-column : goal.overflow_add-column
overflow_add-column c = omega (arith, behind_within c.args.self.now.text.now c.loop-place.place)
