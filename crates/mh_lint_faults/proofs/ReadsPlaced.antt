-- A file has one module with one list of places, and files that are read have one list of modules.
use Rattle.std.proofs.Common.{◌≡◌, ℕ, List, [], sym, ap, subst, ◌∙◌}
use Rattle.mh_grammar.proofs.Lists.{zip_unique}
use Rattle.mh_lex.proofs.LexesUnique.{LexesFrom-unique}
use Rattle.mh_rules.specs.Modules.{no_module}
use Rattle.mh_reader_parser.proofs.ParserExact.{file_unique}
use Rattle.mh_reader_parser.specs.Spelling.{File}
use Rattle.mh_reader_parser.specs.TokenKinds.{file_tokens}
use Rattle.mh_reader_places.proofs.MentionsFrom.{mentions_from-in_file}
use Rattle.mh_reader_places.specs.Places.{ReadsPlaced, bad_costs}
use Rattle.mh_reader_places.specs.code.ScanSteps.{start}
use Rattle.mh_reader_places.specs.code.Walks.{mentions_from}
use Rattle.mh_reader_places.specs.declared.reading.PlacedModule.{PlacedModule}
use Rattle.mh_lint_findings.specs.declared.findings.GrammarFile.{GrammarFile}
use Rattle.mh_lint_faults.specs.Stages.{AreRead}

placed_same : (p q : PlacedModule) → p.module ≡ q.module → p.mentions ≡ q.mentions → p.bad_costs ≡ q.bad_costs → p ≡ q
placed_same p q made mentions costs = λ i. record { «module» = made i; mentions = mentions i; bad_costs = costs i }

-- The mentions do not depend on the derivation of the file.
pub placed_once : (bytes : List ℕ) (p q : PlacedModule) → ReadsPlaced bytes p → ReadsPlaced bytes q → p ≡ q
placed_once bytes p q a b =
    let same : b.lexemes ≡ a.lexemes = (LexesFrom-unique a.lexes b.lexes).0 in
    let file : File no_module (file_tokens bytes a.lexemes) q.module = subst (λ ls. File no_module (file_tokens bytes ls) q.module) same b.file in
    let made : p.module ≡ q.module = file_unique (file_tokens bytes a.lexemes) p.module q.module a.file file in
    let first : p.mentions ≡ mentions_from bytes start [] a.lexemes = a.mentions ∙ sym (mentions_from-in_file bytes a.lexemes p.module a.file) in
    let other : q.mentions ≡ mentions_from bytes start [] b.lexemes = b.mentions ∙ sym (mentions_from-in_file bytes b.lexemes q.module b.file) in
    let mentions : p.mentions ≡ q.mentions = first ∙ ap (mentions_from bytes start []) (sym same) ∙ sym other in
    placed_same p q made mentions (a.bad ∙ ap (bad_costs bytes) (sym same) ∙ sym b.bad)

pub read_once : (files : List GrammarFile) (found others : List PlacedModule) → AreRead files found → AreRead files others → found ≡ others
read_once files found others a b = zip_unique (λ (f : GrammarFile) (p : PlacedModule). ReadsPlaced f.bytes p) (λ f p q h g. placed_once f.bytes p q h g) files found others a b
