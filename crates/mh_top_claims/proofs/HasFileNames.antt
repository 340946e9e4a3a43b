-- Proves that grammars whose names are as grammar files spell them meet the premises on names of the laws on texts that
-- are read again: the names are words of table files and have no line ends.
use Rattle.std.proofs.Common.{◌≡◌, ◌≢◌, ◌∙◌, ℕ, true, false, true≢false, List, [], ◌∷◌, refl, sym, ap}
use Rattle.std.specs.List.{All, AllByRecursion, list_all}
use Rattle.std.proofs.lemmas.Bool.{and_from, and_parts, ne_eqb}
use Rattle.std.proofs.lemmas.List.Elements.{All-weaker, recursion_from_All}
use Rattle.mh_grammar.specs.Names.{nonterminal_name, token_name}
use Rattle.mh_grammar.specs.Text.{Text}
use Rattle.mh_grammar.specs.declared.types.Grammar.{Grammar}
use Rattle.mh_grammar.specs.declared.types.NontermInfo.{NontermInfo}
use Rattle.mh_grammar.specs.declared.types.TokenInfo.{TokenInfo}
use Rattle.mh_tabfile_form.specs.Form.{IsInWord, IsWord}
use Rattle.mh_tabfile_form.specs.TableContent.{HasWordNames}
use Rattle.mh_update.specs.NoLineEnds.{is_no_line_end, HasNamesWithoutLineEnds, HasNoLineEnd}
use Rattle.mh_top_load.specs.GrammarNames.{is_instance_byte, HasFileNames, IsInstanceName}
use Rattle.mh_top_load.proofs.HasFileNames.{token_names_named}
use Rattle.mh_top_load.proofs.InstanceNames.{looked_up}

-- ---- The name of an instance is a word and has no line end.

other_byte : (b k : ℕ) → is_instance_byte b ≡ true → is_instance_byte k ≡ false → b ≢ k
other_byte b k is none e = true≢false (sym is ∙ ap is_instance_byte e ∙ none)

inside_line : (b : ℕ) → is_instance_byte b ≡ true → is_no_line_end b ≡ true
inside_line b is = rw (ne_eqb b 10 (other_byte b 10 is refl)) (rw (ne_eqb b 13 (other_byte b 13 is refl)) refl)

no_line_end : (name : Text) → list_all is_instance_byte name ≡ true → HasNoLineEnd name
no_line_end [] is = refl
no_line_end (b ∷ name) is =
    let parts = and_parts (is_instance_byte b) (list_all is_instance_byte name) is in
    and_from (is_no_line_end b) (list_all is_no_line_end name) (inside_line b parts.0) (no_line_end name parts.1)

inside_word : (name : Text) → list_all is_instance_byte name ≡ true → AllByRecursion IsInWord name
inside_word [] is = tt
inside_word (b ∷ name) is =
    let parts = and_parts (is_instance_byte b) (list_all is_instance_byte name) is in
    ((other_byte b 32 parts.0 refl, other_byte b 10 parts.0 refl), inside_word name parts.1)

word_of_name : (name : Text) → IsInstanceName name → IsWord name
word_of_name name is = (is.0, inside_word name is.1)

-- ---- The names of a grammar.

-- No name of a list of such names has a line end.
all_without : {X : Type 0} (name : X → Text) (xs : List X) → All (λ x. IsInstanceName (name x)) xs → All (λ x. HasNoLineEnd (name x)) xs
all_without name xs all = All-weaker (λ x. IsInstanceName (name x)) (λ x. HasNoLineEnd (name x)) (λ x is. no_line_end (name x) is.1) xs all

module _ (g : Grammar) (names : HasFileNames g) where
  token_without_line_end : (z : ℕ) → HasNoLineEnd (token_name g z)
  unfolding token_name
  token_without_line_end z =
      looked_up HasNoLineEnd (λ (t : TokenInfo). t.name) g.tokens refl
      (recursion_from_All (λ (t : TokenInfo). HasNoLineEnd t.name) g.tokens (all_without (λ (t : TokenInfo). t.name) g.tokens (token_names_named g names))) z

  nonterminal_without_line_end : (n : ℕ) → HasNoLineEnd (nonterminal_name g n)
  unfolding nonterminal_name
  nonterminal_without_line_end n =
      looked_up HasNoLineEnd (λ (i : NontermInfo). i.name) g.nonterminals refl
      (recursion_from_All (λ (i : NontermInfo). HasNoLineEnd i.name) g.nonterminals (all_without (λ (i : NontermInfo). i.name) g.nonterminals names.nonterminals)) n

  pub without_line_ends : HasNamesWithoutLineEnds g
  without_line_ends = record { tokens = token_without_line_end; nonterminals = nonterminal_without_line_end }

  pub word_names : HasWordNames g
  word_names = record {
    tokens = All-weaker (λ (t : TokenInfo). IsInstanceName t.name) (λ (t : TokenInfo). IsWord t.name) (λ t is. word_of_name t.name is) g.tokens (token_names_named g names);
    nonterminals = All-weaker (λ (n : NontermInfo). IsInstanceName n.name) (λ (n : NontermInfo). IsWord n.name) (λ n is. word_of_name n.name is) g.nonterminals names.nonterminals;
  }
