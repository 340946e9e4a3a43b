-- A property of all modules that bytes spell is one of all modules of an order. So these are ready, their tokens have
-- capital letters, and their names are words.
use Rattle.std.proofs.Common.{◌≡◌, ℕ, true, List, [], ◌∷◌, Option, None, Some, refl, sym, subst}
use Rattle.std.specs.List.{All}
use Rattle.std.proofs.lemmas.List.Elements.{All-cons, All-nil, All-from_recursion}
use Rattle.std.specs.List.{AllByRecursion, list_all}
use Rattle.std.proofs.lemmas.Bool.{and_from}
use Rattle.mh_grammar.proofs.Lists.{recursion-weaker}
use Rattle.mh_lex_bytes.specs.Bytes.{is_word_start, is_word_byte}
use Rattle.mh_lex_bytes.specs.Words.{is_word}
use Rattle.mh_lex.specs.declared.kinds.Kind.{Kind}
use Rattle.mh_lex.specs.declared.kinds.Kind.TheVariants as kinds
use Rattle.mh_lex.specs.LexemeTexts as texts
use Rattle.mh_lex.specs.LexemeTexts.{LexemeText}
use Rattle.mh_lex.proofs.LexemesHaveText.{lexemes_spelled}
use Rattle.mh_outside.specs.Shelf.{Files}
use Rattle.mh_rules.specs.declared.modules.Module.{Module}
use Rattle.mh_rules.specs.declared.modules.Rule.{Rule}
use Rattle.mh_rules.specs.declared.modules.TokenDecl.{TokenDecl}
use Rattle.mh_rules.specs.Ready.{IsModuleReady, AreModulesReady}
use Rattle.mh_reader_parser.specs.TokenKinds.{is_capital}
use Rattle.mh_reader_parser.specs.Spelling.{Spells}
use Rattle.mh_reader_parser.proofs.ModuleReady.{spelled_ready}
use Rattle.mh_reader_parser.proofs.FitsModule.{FitsToken, FitsRule, lexemes_fit, FitsModule-spelled}
use Rattle.mh_grammar.specs.Text.{Text}
use Rattle.mh_top_drive.specs.StageResults.{StageResult, Go, Halt, AfterStage, Then, Gives}
use Rattle.mh_sample.specs.Texts.{grammar_text}
use Rattle.mh_top_drive.specs.FileContents.{AreFileContents, IsFileContent}
use Rattle.mh_top_load.specs.GrammarFile.{IsModule}
use Rattle.mh_top_load.specs.Modules.{AreModulesBy, sample_file}
use Rattle.mh_top_load.specs.code.CapitalTokens.{HasCapitalTokens}
use Rattle.mh_top_load.specs.code.ModuleNames.{HasWordsAsNames}

module _ (P : Module → Type 0) (each : (bytes : Text) (m : Module) → Spells bytes m → P m) where
  of_file : (files : Option Files) (name : Text) (m : Module) → IsFileContent files IsModule name (Go m) → P m
  of_file files name m is = at is.0 is.2
    where
      at : (read : StageResult Text) → AfterStage read (IsModule name) (Go m) → P m
      at (Go bytes) spells = each bytes m spells
      at (Halt cause) same = absurd (cc)

  of_files : (files : Option Files) (names : List Text) (ms : List Module) → AreFileContents files IsModule names (Go ms) → All P ms
  of_files files [] ms is = let same : ms ≡ [] = cc in subst (All P) (sym same) (All-nil P)
  of_files files (name ∷ names) ms is = at (λ xs are. of_files files names xs are) is.0 is.1 is.2
    where
      behind : ((xs : List Module) → AreFileContents files IsModule names (Go xs) → All P xs) → (m : Module) → IsFileContent files IsModule name (Go m) → (rest : StageResult (List Module)) → AreFileContents files IsModule names rest → AfterStage rest (λ xs. Gives (m ∷ xs)) (Go ms) → All P ms
      behind again m spelled (Halt cause) are same = absurd (cc)
      behind again m spelled (Go xs) are same =
          let one : m ∷ xs ≡ ms = cc in
          subst (All P) one (All-cons P m xs (of_file files name m spelled) (again xs are))

      at : ((xs : List Module) → AreFileContents files IsModule names (Go xs) → All P xs) → (first : StageResult Module) → IsFileContent files IsModule name first → AfterStage first (λ x. Then (AreFileContents files IsModule names) (λ xs. Gives (x ∷ xs))) (Go ms) → All P ms
      at again (Go m) spelled rest = behind again m spelled rest.0 rest.1 rest.2
      at again (Halt cause) spelled same = absurd (cc)

  -- The modules of an order have the property.
  of_modules : (files : Option Files) (sample : Option ℕ) (names : List Text) (ms : List Module) → AreModulesBy sample files names (Go ms) → All P ms
  of_modules files None names ms are = of_files files names ms are
  of_modules files (Some number) names ms are = at are.0 are.1 are.2
    where
      at : (first : StageResult Module) → IsModule sample_file (grammar_text number) first → AfterStage first (λ m. Gives (m ∷ [])) (Go ms) → All P ms
      at (Go m) spells same =
          let one : m ∷ [] ≡ ms = cc in
          subst (All P) one (All-cons P m [] (each (grammar_text number) m spells) (All-nil P))
      at (Halt cause) fault same = absurd (cc)

-- The modules of an order are ready to be joined.
pub modules_ready : (files : Option Files) (sample : Option ℕ) (names : List Text) (ms : List Module) → AreModulesBy sample files names (Go ms) → AreModulesReady ms
modules_ready files sample names ms are = of_modules IsModuleReady spelled_ready files sample names ms are

abbrev IsCapital : TokenDecl → Type 0
IsCapital t = is_capital t.name ≡ true

capitals_in : (ts : List TokenDecl) → AllByRecursion FitsToken ts → AllByRecursion IsCapital ts
capitals_in [] h = tt
capitals_in (t ∷ ts) h = (h.0.capital, capitals_in ts h.1)

pub spelled_capitals : (bytes : Text) (m : Module) → Spells bytes m → HasCapitalTokens m
spelled_capitals bytes m s =
    let fitting = FitsModule-spelled s.2 (lexemes_fit bytes s.0 (lexemes_spelled bytes s.0 _ s.1)) in
    All-from_recursion IsCapital m.tokens (capitals_in m.tokens fitting.tokens)

pub modules_capital : (files : Option Files) (sample : Option ℕ) (names : List Text) (ms : List Module) → AreModulesBy sample files names (Go ms) → All HasCapitalTokens ms
modules_capital files sample names ms are = of_modules HasCapitalTokens spelled_capitals files sample names ms are

-- The text of a word is a word.
bytes_pass : (bs : Text) → AllByRecursion (λ b. is_word_byte b ≡ true) bs → list_all is_word_byte bs ≡ true
bytes_pass [] all = refl
bytes_pass (b ∷ bs) all = and_from (is_word_byte b) (list_all is_word_byte bs) all.0 (bytes_pass bs all.1)

word_of : (kind : Kind) (t : Text) → LexemeText kind t → kind ≡ kinds.Word → is_word t ≡ true
word_of kind t (texts.LexemeText.word {b = b} {bs = bs} first all) e = and_from (is_word_start b) (list_all is_word_byte bs) first (bytes_pass bs all)
word_of kind t (texts.LexemeText.mark h) e = absurd (cc)
word_of kind t texts.LexemeText.percents e = absurd (cc)
word_of kind t (texts.LexemeText.keyword h) e = absurd (cc)
word_of kind t (texts.LexemeText.quoted s h) e = absurd (cc)
word_of kind t texts.LexemeText.empty_action e = absurd (cc)
word_of kind t (texts.LexemeText.cost ds h) e = absurd (cc)

text_is_word : (t : Text) → LexemeText kinds.Word t → is_word t ≡ true
text_is_word t is = word_of kinds.Word t is refl

pub spelled_words : (bytes : Text) (m : Module) → Spells bytes m → HasWordsAsNames m
spelled_words bytes m s =
    let fitting = FitsModule-spelled s.2 (lexemes_fit bytes s.0 (lexemes_spelled bytes s.0 _ s.1)) in
    record {
      tokens = All-from_recursion (λ (t : TokenDecl). is_word t.name ≡ true) m.tokens (recursion-weaker FitsToken (λ (t : TokenDecl). is_word t.name ≡ true) (λ t fits. text_is_word t.name fits.name) m.tokens fitting.tokens);
      starts = All-from_recursion (λ (x : Text). is_word x ≡ true) m.starts (recursion-weaker (LexemeText kinds.Word) (λ (x : Text). is_word x ≡ true) text_is_word m.starts fitting.starts);
      rules = All-from_recursion (λ (r : Rule). is_word r.name ≡ true) m.rules (recursion-weaker FitsRule (λ (r : Rule). is_word r.name ≡ true) (λ r fits. text_is_word r.name fits.name) m.rules fitting.rules);
    }

pub modules_named : (files : Option Files) (sample : Option ℕ) (names : List Text) (ms : List Module) → AreModulesBy sample files names (Go ms) → All HasWordsAsNames ms
modules_named files sample names ms are = of_modules HasWordsAsNames spelled_words files sample names ms are
