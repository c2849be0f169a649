-- The grammar's values of the program's lines.
use Rattle.bq_asm.specs.declared.statement.Statement.{Statement}
use Rattle.bq_asm.specs.declared.statement.Statement.TheVariants as statements
use Rattle.bq_asm.specs.declared.statement.Line.{Line}
use Rattle.bq_asm.specs.declared.statement.Line.TheVariants as lines
use Rattle.bq_asm.specs.Statement as grammar

abbrev pub statement_view : Statement → grammar.Statement
statement_view (statements.Complete i) = grammar.Complete i
statement_view (statements.JumpTo j label) = grammar.JumpTo j label.now

abbrev pub line_view : Line → grammar.Line
line_view lines.Blank = grammar.Blank
line_view (lines.Label label) = grammar.Label label.now
line_view (lines.Instruction s) = grammar.Instruction (statement_view s)
