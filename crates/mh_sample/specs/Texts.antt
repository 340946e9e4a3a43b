-- The definition of samples: for each number a grammar of expressions with several levels, and sentences of it, some of
-- which lack the last parenthesis. Samples are this project's own.
use Rattle.std.specs.Prelude.{ℕ, zero, suc, ◌+◌, ◌-◌, ◌*◌, ◌%◌, nat_eq, if◌then◌else◌, List, [], ◌∷◌, ◌++◌, codes, decimal}
use Rattle.mh_sample.specs.SampleSize.{sample_size}
use Rattle.mh_grammar.specs.Text.{Text}

-- The text repeated so many times.
unfoldable pub repeated_text : ℕ → Text → Text
repeated_text zero text = []
repeated_text (suc count) text = text ++ repeated_text count text

-- The lists that `f` gives for `count` numbers from `number` up, one after another.
unfoldable pub each_from : {A : Type 0} → (ℕ → List A) → ℕ → ℕ → List A
each_from f number zero = []
each_from f number (suc count) = f number ++ each_from f (number + 1) count

-- The grammar.

-- The number of operators of a sample's grammar, from 2 to 31.
abbrev pub operators_of : ℕ → ℕ
operators_of number = 2 + number % 30

unfoldable pub token_line : ℕ → Text
token_line j = codes "%token OP" ++ decimal j ++ codes "\n"

-- The beginning of the rule of level `j`: the left operand is of the same level.
unfoldable pub left_text : ℕ → Text
left_text j = codes "e" ++ decimal j ++ codes ": e" ++ decimal j ++ codes " OP" ++ decimal j ++ codes " "

-- The end of a level's rule: the right operand of the operator, or a single operand.
unfoldable pub right_text : Text → Text
right_text operand = operand ++ codes " {} | " ++ operand ++ codes " {}\n"

-- The operands of a level are the expressions of the next level; those of the last level are atoms.
abbrev pub level_line : ℕ → Text
level_line j = left_text j ++ right_text (codes "e" ++ decimal (j + 1))

abbrev pub last_level_line : ℕ → Text
last_level_line k = left_text k ++ right_text (codes "a")

unfoldable pub grammar_text : ℕ → Text
grammar_text number =
    codes "%token EOF LP RP INT\n" ++ each_from token_line 1 (operators_of number) ++ codes "%start main\n%%\nmain: e1 EOF {}\n"
    ++ each_from level_line 1 (operators_of number - 1) ++ last_level_line (operators_of number) ++ codes "a: INT {} | LP e1 RP {}\n"

-- The sentences.

-- The operator at a place of a sentence. Both are counted from 1.
abbrev pub operator_at : ℕ → ℕ → ℕ → ℕ
operator_at operators sentence place = 1 + (sentence * place) % operators

-- How many parentheses a sentence opens.
abbrev pub opened_parentheses : ℕ → ℕ
opened_parentheses sentence = sentence % 17

-- How many parentheses a sentence closes: as many as it opens, but one fewer in every third sentence that opens any.
abbrev pub closed_parentheses : ℕ → ℕ
closed_parentheses sentence = if nat_eq (sentence % 3) 0 then opened_parentheses sentence - 1 else opened_parentheses sentence

unfoldable pub operand_text : ℕ → Text
operand_text operator = codes " OP" ++ decimal operator ++ codes " INT"

-- The names of a sentence, with one space between them.
unfoldable pub sentence_text : ℕ → ℕ → Text
sentence_text operators sentence =
    repeated_text (opened_parentheses sentence) (codes "LP ") ++ codes "INT" ++ each_from (λ place. operand_text (operator_at operators sentence place)) 1 (sentence % 5)
    ++ repeated_text (closed_parentheses sentence) (codes " RP") ++ codes " EOF"

abbrev pub sentence_line : ℕ → ℕ → Text
sentence_line operators sentence = sentence_text operators sentence ++ 10 ∷ []

-- The lines of all sentences of a sample.
unfoldable pub sentences_text : ℕ → Text
sentences_text number = each_from (sentence_line (operators_of number)) 0 sample_size
