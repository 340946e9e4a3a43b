-- The results of the lexer's functions at a position, and the bounds of the lengths that they return.
use Rattle.std.specs.Prelude.{◌≡◌, ◌≢◌, ℕ, zero, suc, ◌<◌, ◌≤◌, ◌&&◌, cond, List, length, Option, drop}
use Rattle.mh_lex.specs.declared.code.Delimiter.{Delimiter}
use Rattle.mh_lex.specs.declared.code.Delimiter.TheVariants.{Comment}
use Rattle.mh_lex.specs.declared.code.CodeStep.{CodeStep}
use Rattle.mh_lex.specs.declared.code.CodeStep.TheVariants.{Closes, Passes, Nests, Remark, Stuck}
use Rattle.mh_lex.specs.declared.kinds.Kind.{Kind}
use Rattle.mh_lex.specs.declared.kinds.LexemeStart.{LexemeStart}
use Rattle.mh_lex.specs.declared.kinds.LexemeStart.TheVariants as fronts
use Rattle.mh_lex.specs.declared.kinds.Scan.{Scan}
use Rattle.mh_lex.specs.declared.kinds.Scan.TheVariants as takings
use Rattle.mh_lex.specs.LexemeStarts.{lexeme_start}
use Rattle.mh_lex.specs.CodeSteps.{begins_comment, has_remarks, step_inside}
use Rattle.mh_lex.specs.Lexing.{Scanned}

-- The innermost level, if `remarks` comments are open inside the code.
abbrev pub innermost_of : Delimiter → ℕ → Delimiter
innermost_of code zero = code
innermost_of code (suc remarks) = Comment

-- A step if the code is not closed here: a comment has precedence.
abbrev pub step_over_opening : Delimiter → List ℕ → CodeStep
step_over_opening e s = cond (has_remarks e && begins_comment s) Remark (step_inside e s)

-- The length of the step is positive and at most `len`.
abbrev pub IsStepWithin : ℕ → CodeStep → Type 0
IsStepWithin len (Closes n) = (0 < n) × (n ≤ len)
IsStepWithin len (Passes n) = (0 < n) × (n ≤ len)
IsStepWithin len Nests = 1 ≤ len
IsStepWithin len Remark = 2 ≤ len
IsStepWithin len Stuck = Unit {0}

-- The length of the start is positive and at most `len`.
abbrev pub Begins : ℕ → LexemeStart → Type 0
Begins len fronts.Ended = Unit {0}
Begins len (fronts.Short what n) = (0 < n) × (n ≤ len)
Begins len (fronts.Long what e n) = (0 < n) × (n ≤ len)
Begins len fronts.Fault = Unit {0}

-- The piece that is found at a position: the end, a lexeme, blank or comment, or a fault.
abbrev pub IsScan : List ℕ → ℕ → Scan → Type 0
IsScan bytes at takings.Ended = lexeme_start (drop at bytes) ≡ fronts.Ended
IsScan bytes at (takings.Piece what end) = (at < end) × (end ≤ length bytes) × Scanned (drop at bytes) what (drop end bytes)
IsScan bytes at takings.Fault = (lexeme_start (drop at bytes) ≢ fronts.Ended) × ((what : Option Kind) (rest : List ℕ) → Scanned (drop at bytes) what rest → ⊥)
