-- Lemmas on the loop that reads the names of tokens.
use Rattle.std.proofs.Common.{◌≡◌, ℕ, List, [], ◌∷◌, ◌++◌, Option, Some, None, sym, ap, refl, ◌∙◌, append_assoc, append-nil}
use Rattle.mh_grammar.specs.Text.{Text}
use Rattle.mh_msgfile.specs.Sentences.{Vocabulary, TokensResult, Tokens, Unknown, put_token, tokens_of}
use Rattle.mh_msgfile.specs.code.LineSteps.{after_tokens}

token_more : (before : List ℕ) (name : Text) (token : ℕ) (found : TokensResult) → after_tokens before (put_token name (Some token) found) ≡ after_tokens (before ++ token ∷ []) found
token_more before name token (Tokens tokens) = ap Tokens (sym (append_assoc before (token ∷ []) tokens))
token_more before name token (Unknown other) = refl

module _ (v : Vocabulary) (name : Text) (names : List Text) where
  -- The name of a token adds the token.
  pub token_read : (before : List ℕ) (token : ℕ) → v.token_named name ≡ Some token → after_tokens before (tokens_of v (name ∷ names)) ≡ after_tokens (before ++ token ∷ []) (tokens_of v names)
  token_read before token e = ap (λ (o : Option ℕ). after_tokens before (put_token name o (tokens_of v names))) e ∙ token_more before name token (tokens_of v names)

  pub no_token_read : (before : List ℕ) → v.token_named name ≡ None → after_tokens before (tokens_of v (name ∷ names)) ≡ Unknown name
  no_token_read before e = ap (λ (o : Option ℕ). after_tokens before (put_token name o (tokens_of v names))) e

  pub first_unknown : v.token_named name ≡ None → tokens_of v (name ∷ names) ≡ Unknown name
  first_unknown e = ap (λ (o : Option ℕ). put_token name o (tokens_of v names)) e

  pub first_read : (token : ℕ) → v.token_named name ≡ Some token → tokens_of v (name ∷ names) ≡ after_tokens (token ∷ []) (tokens_of v names)
  first_read token e = ap (λ (o : Option ℕ). put_token name o (tokens_of v names)) e ∙ first_is token (tokens_of v names)
    where
      first_is : (token : ℕ) (found : TokensResult) → put_token name (Some token) found ≡ after_tokens (token ∷ []) found
      first_is token (Tokens tokens) = refl
      first_is token (Unknown other) = refl

pub no_name_left : (v : Vocabulary) (tokens : List ℕ) (names : List Text) → names ≡ [] → after_tokens tokens (tokens_of v names) ≡ Tokens tokens
no_name_left v tokens names e = ap (λ (l : List Text). after_tokens tokens (tokens_of v l)) e ∙ ap Tokens (append-nil tokens)
