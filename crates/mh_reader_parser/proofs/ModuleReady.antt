-- Proves that a module that was read meets the conditions of joining: each rule has an alternative, costs are in range,
-- and no actual is too deep.
use Rattle.std.proofs.Common.{◌<◌, ℕ, List, [], ◌∷◌, ◌++◌, length, Ok, Err}
use Rattle.std.specs.Prelude.{Result, IfOk, None}
use Rattle.std.specs.List.{All, AllByRecursion}
use Rattle.std.proofs.lemmas.List.Elements.{All-push, All-from_recursion}
use Rattle.mh_grammar.proofs.Lists.{some_length}
use Rattle.mh_lex.specs.declared.kinds.Lexeme.{Lexeme}
use Rattle.mh_lex.specs.declared.kinds.SyntaxFault.{SyntaxFault}
use Rattle.mh_lex.specs.Lexing.{Lexes}
use Rattle.mh_lex.proofs.LexemesHaveText.{lexemes_spelled}
use Rattle.mh_rules.specs.declared.modules.Rule.{Rule}
use Rattle.mh_rules.specs.declared.modules.TokenDecl.{TokenDecl}
use Rattle.mh_rules.specs.declared.modules.Module.{Module}
use Rattle.mh_rules.specs.Modules.{no_module}
use Rattle.mh_rules.specs.Depth.{IsActualShallow, AreProducersShallow}
use Rattle.mh_rules.specs.Ready.{IsTokenReady, IsModuleReady, AreModulesReady}
use Rattle.mh_reader_parser.specs.TokenKinds.{file_tokens}
use Rattle.mh_reader_parser.specs.Spelling.{File, Spells}
use Rattle.mh_reader_parser.proofs.FitsModule.{FitsToken, FitsRule, lexemes_fit, FitsModule-spelled}
use Rattle.mh_reader_parser.proofs.ActualDepth.{producers_shallow, on_error_lists_shallow}

abbrev IsFilled : Rule → Type 0
IsFilled r = 0 < length r.alternatives

rules_filled : (rs : List Rule) → AllByRecursion FitsRule rs → AllByRecursion IsFilled rs
rules_filled [] h = tt
rules_filled (r ∷ rs) h = (some_length r.alternatives h.0.some, rules_filled rs h.1)

tokens_ready : (ts : List TokenDecl) → AllByRecursion FitsToken ts → AllByRecursion IsTokenReady ts
tokens_ready [] h = tt
tokens_ready (t ∷ ts) h = (h.0.cost, tokens_ready ts h.1)

file_ready : (bytes : List ℕ) (ls : List Lexeme) (m : Module) → Lexes bytes ls None → File no_module (file_tokens bytes ls) m → IsModuleReady m
file_ready bytes ls m lexed f =
    let fitting = FitsModule-spelled f (lexemes_fit bytes ls (lexemes_spelled bytes ls None lexed)) in
    record {
      alternatives = All-from_recursion IsFilled m.rules (rules_filled m.rules fitting.rules);
      costs = All-from_recursion IsTokenReady m.tokens (tokens_ready m.tokens fitting.tokens);
      shallow = All-from_recursion AreProducersShallow m.rules (producers_shallow m.rules fitting.rules);
      on_error_shallow = All-from_recursion (All IsActualShallow) m.on_error (on_error_lists_shallow m.on_error fitting.on_error);
    }

-- The result of the parser meets the conditions, if it is a module.
pub read_ready : (bytes : List ℕ) (ls : List Lexeme) (answer : Result Module SyntaxFault) → Lexes bytes ls None → IfOk answer (λ m. File no_module (file_tokens bytes ls) m) → IfOk answer IsModuleReady
read_ready bytes ls (Ok m) lexed f = file_ready bytes ls m lexed f
read_ready bytes ls (Err e) lexed f = tt

pub spelled_ready : (bytes : List ℕ) (m : Module) → Spells bytes m → IsModuleReady m
spelled_ready bytes m s = file_ready bytes s.0 m s.1 s.2

-- The conditions are kept if one more spelled module is appended.
pub AreModulesReady-push : (ms : List Module) (bytes : List ℕ) (m : Module) → AreModulesReady ms → Spells bytes m → AreModulesReady (ms ++ m ∷ [])
AreModulesReady-push ms bytes m h s = All-push IsModuleReady ms m h (spelled_ready bytes m s)
