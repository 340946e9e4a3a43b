-- Lemmas on the modules of an order: the text of a sample is short, and modules by the sample or by the files are those
-- of the order.
use Rattle.std.proofs.Common.{◌≡◌, ◌+◌, ◌-◌, ◌*◌, ◌^◌, ◌<◌, ◌≤◌, ℕ, zero, suc, List, [], ◌∷◌, ◌++◌, length, Option, Some, Result, Ok, Err, Vec, IfOk, refl, sym, ap, subst, arith, length-append}
use Rattle.std.specs.Prelude.{codes, decimal}
use Rattle.std.specs.List.{All}
use Rattle.std.specs.declared.alloc.Global.{Global}
use Rattle.std.proofs.lemmas.Nat.{mod_below}
use Rattle.std.proofs.lemmas.Fmt.{length-decimal-le}
use Rattle.mh_opts.specs.declared.order.Order.{Order}
use Rattle.mh_outside.specs.Shelf.{Files}
use Rattle.mh_rules.specs.declared.modules.Module.{Module}
use Rattle.mh_sample.specs.Texts.{each_from, operators_of, token_line, left_text, right_text, level_line, last_level_line, grammar_text}
use Rattle.mh_grammar.specs.Text.{Text}
use Rattle.mh_top_drive.specs.StageResults.{StageResult, Go, Gives}
use Rattle.mh_top_drive.specs.code.StageCalls.{FileStageGives, StageShelfCounts, StageGives, list_result}
use Rattle.mh_top_drive.specs.declared.stop.Stop.{Stop}
use Rattle.mh_top_drive.specs.declared.stop.Stop.TheVariants.{Halted, ShelfFailed, InputFailed, WriteFailed, OutOfMemory}
use Rattle.mh_top_drive.proofs.Then.{no_names, then_stops}
use Rattle.mh_top_load.specs.GrammarFile.{IsModule}
use Rattle.mh_top_load.specs.Modules.{AreModules, AreModulesBy, IsSampleModule, grammar_files, names_to_read, sample_file, sample_of}
use Rattle.mh_top_drive.specs.NextFile.{IsNextFile}

-- ---- The text of a sample is short.

each_within : (f : ℕ → Text) (n k : ℕ) → ((m : ℕ) → m < n + k → length (f m) ≤ 50) → length (each_from f n k) ≤ k * 50
unfolding each_from
each_within f n zero short = omega arith
each_within f n (suc k) short =
    let rest = each_within f (n + 1) k (λ m lt. short m (omega (arith, lt))) in
    let first = short n (omega arith) in
    omega (arith, length-append (f n) (each_from f (n + 1) k), first, rest)

digits_few : (n : ℕ) → n < 100 → length (decimal n) ≤ 2
digits_few n lt = length-decimal-le 2 n (omega arith) (omega (arith, lt)) (omega (arith, lt))

token_short : (n : ℕ) → n < 100 → length (token_line n) ≤ 50
unfolding token_line
token_short n lt =
    let front : length (codes "%token OP") ≡ 9 = refl in
    let back : length (codes "\n") ≡ 1 = refl in
    omega (arith, length-append (codes "%token OP") (decimal n), length-append (codes "%token OP" ++ decimal n) (codes "\n"), digits_few n lt, front, back)

left_short : (n : ℕ) → n < 100 → length (left_text n) ≤ 20
unfolding left_text
left_short n lt =
    let l1 : length (codes "e") ≡ 1 = refl in
    let l2 : length (codes ": e") ≡ 3 = refl in
    let l3 : length (codes " OP") ≡ 3 = refl in
    let l4 : length (codes " ") ≡ 1 = refl in
    let a = codes "e" ++ decimal n in
    let b = a ++ codes ": e" in
    let c = b ++ decimal n in
    let d = c ++ codes " OP" in
    let e = d ++ decimal n in
    omega (arith, l1, l2, l3, l4, digits_few n lt, length-append (codes "e") (decimal n), length-append a (codes ": e"), length-append b (decimal n), length-append c (codes " OP"), length-append d (decimal n), length-append e (codes " "))

right_short : (operand : Text) → length operand ≤ 3 → length (right_text operand) ≤ 20
unfolding right_text
right_short operand le =
    let l1 : length (codes " {} | ") ≡ 6 = refl in
    let l2 : length (codes " {}\n") ≡ 4 = refl in
    let a = operand ++ codes " {} | " in
    let b = a ++ operand in
    omega (arith, le, l1, l2, length-append operand (codes " {} | "), length-append a operand, length-append b (codes " {}\n"))

level_short : (n : ℕ) → n < 99 → length (level_line n) ≤ 50
level_short n lt =
    let l1 : length (codes "e") ≡ 1 = refl in
    let operand = codes "e" ++ decimal (n + 1) in
    let few : length operand ≤ 3 = omega (arith, l1, length-append (codes "e") (decimal (n + 1)), digits_few (n + 1) (omega (arith, lt))) in
    omega (arith, left_short n (omega (arith, lt)), right_short operand few, length-append (left_text n) (right_text operand))

last_short : (n : ℕ) → n < 100 → length (last_level_line n) ≤ 50
last_short n lt =
    let l1 : length (codes "a") ≡ 1 = refl in
    omega (arith, left_short n lt, right_short (codes "a") (omega (arith, l1)), length-append (left_text n) (right_text (codes "a")))

pub grammar_short : (number : ℕ) → length (grammar_text number) < 2 ^ 31
unfolding grammar_text
grammar_short number =
    let k = operators_of number in
    let few : k < 32 = (let below = mod_below number 30 (omega arith) in omega (arith, below)) in
    let tokens : length (each_from token_line 1 k) ≤ k * 50 = each_within token_line 1 k (λ m lt. token_short m (omega (arith, lt, few))) in
    let levels : length (each_from level_line 1 (k - 1)) ≤ (k - 1) * 50 = each_within level_line 1 (k - 1) (λ m lt. level_short m (omega (arith, lt, few))) in
    let last = last_short k (omega (arith, few)) in
    let l1 : length (codes "%token EOF LP RP INT\n") ≡ 21 = refl in
    let l2 : length (codes "%start main\n%%\nmain: e1 EOF {}\n") ≡ 31 = refl in
    let l3 : length (codes "a: INT {} | LP e1 RP {}\n") ≡ 24 = refl in
    let a = codes "%token EOF LP RP INT\n" ++ each_from token_line 1 k in
    let b = a ++ codes "%start main\n%%\nmain: e1 EOF {}\n" in
    let c = b ++ each_from level_line 1 (k - 1) in
    let d = c ++ last_level_line k in
    omega (
      arith,
      few,
      tokens,
      levels,
      last,
      l1,
      l2,
      l3,
      length-append (codes "%token EOF LP RP INT\n") (each_from token_line 1 k),
      length-append a (codes "%start main\n%%\nmain: e1 EOF {}\n"),
      length-append b (each_from level_line 1 (k - 1)),
      length-append c (last_level_line k),
      length-append d (codes "a: INT {} | LP e1 RP {}\n"),
    )

pub text_short : {E : Type 0} (number : ℕ) (r : Result (Vec ℕ Global) E) → IfOk r (λ v. v.items ≡ grammar_text number) → IfOk r (λ v. length v.items < 2 ^ 31)
text_short number (Ok v) is = subst (λ (t : Text). length t < 2 ^ 31) (sym is) (grammar_short number)
text_short number (Err e) is = tt

-- ---- The modules of a sample are the one module of its text; if this text stops the work, so does the sample.

module _ (number : ℕ) (bytes : Text) (is : bytes ≡ grammar_text number) where
  pub sample_made : (m : Module) (ms : List Module) → ms ≡ m ∷ [] → IsModule sample_file bytes (Go m) → IsSampleModule number (Go ms)
  sample_made m ms alone spells = (Go m, subst (λ (t : Text). IsModule sample_file t (Go m)) is spells, ap Go alone)

  pub sample_stops : (stop : Stop) → StageGives {A = Module} (IsModule sample_file bytes) (Err stop) → StageGives {A = List Module} (IsSampleModule number) (Err stop)
  sample_stops stop has =
      then_stops (IsModule sample_file (grammar_text number)) (λ m. Gives (m ∷ [])) (λ name. ⊥) stop
      (subst (λ (t : Text). StageGives {A = Module} (IsModule sample_file t) (Err stop)) is has)

-- ---- The modules of an order, by its sample or by its files.

module _ (files : Option Files) (order : Order) (sample : Option ℕ) (is : sample_of order.job ≡ sample) where
  pub by_sample : (r : Result (List Module) Stop) → FileStageGives (AreModulesBy sample files order.grammars) (IsNextFile files IsModule (names_to_read sample order.grammars)) r → FileStageGives (AreModules files order) (IsNextFile files IsModule (grammar_files order)) r
  by_sample r has = subst (λ (o : Option ℕ). FileStageGives (AreModulesBy o files order.grammars) (IsNextFile files IsModule (names_to_read o order.grammars)) r) (sym is) has

  pub asked_by : (May : Text → Type 0) → All May (grammar_files order) → All May (names_to_read sample order.grammars)
  asked_by May all = subst (λ (o : Option ℕ). All May (names_to_read o order.grammars)) is all

pub sample_alone : (files : Option Files) (order : Order) (number : ℕ) → sample_of order.job ≡ Some number → (r : Result (List Module) Stop) → StageGives (IsSampleModule number) r → FileStageGives (AreModules files order) (IsNextFile files IsModule (grammar_files order)) r
sample_alone files order number is r has = by_sample files order (Some number) is r (no_names (IsSampleModule number) (IsNextFile files IsModule []) r has)

-- A stage that reads no file leaves the fault count of the shelf (the device that gives the files) unchanged.
pub shelf_counts_of_stage : {A : Type 0} (Has : StageResult (List A) → Type 0) (n : ℕ) (r : Result (Vec A Global) Stop) → StageGives Has (list_result r) → StageShelfCounts n n r
shelf_counts_of_stage Has n (Ok v) has = refl
shelf_counts_of_stage Has n (Err (Halted cause)) has = refl
shelf_counts_of_stage Has n (Err OutOfMemory) has = omega arith
shelf_counts_of_stage Has n (Err (ShelfFailed name)) has = absurd has
shelf_counts_of_stage Has n (Err InputFailed) has = absurd has
shelf_counts_of_stage Has n (Err WriteFailed) has = absurd has
