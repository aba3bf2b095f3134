use Rattle.std.proofs.Common.{◌≡◌}
use Rattle.bundle_designs.specs.LinesAndColumns.{line_of, column_of}
use Rattle.bundle_designs.proofs.cursor.Cursor.go_on.Given as goal

-- the line and the column of the current position
abbrev pub invariant-loop-place : goal.invariant-loop-place
invariant-loop-place l = record {
  line_is : l.line ≡ line_of l.self.text.now l.place;
  column_is : l.column ≡ column_of l.self.text.now l.place;
}
