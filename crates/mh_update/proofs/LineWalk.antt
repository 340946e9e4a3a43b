-- Definitions of a walk over the lines of a messages file, which gives its sentences, their comments and the updated
-- lines, and lemmas on it.
use Rattle.std.proofs.Common.{◌≡◌, ℕ, ◌+◌, ◌-◌, Bool, true, false, List, [], ◌∷◌, ◌++◌, length, take, drop, filter, not, Option, None, Some, refl, sym, ◌∙◌, ap, subst, if◌then◌else◌, arith, append_assoc, append-nil, length-append, ◌==◌, nat_eq}
use Rattle.std.specs.List.{AllByRecursion, list_all}
use Rattle.std.specs.Cmp.Lexicographic.{pointwise}
use Rattle.std.proofs.Math.Seq.{take-append_seam, drop-append_seam}
use Rattle.std.proofs.lemmas.Bool.{and_parts, eqb-true}
use Rattle.std.proofs.lemmas.Grind.{flat_map-append}
use Rattle.std.proofs.lemmas.List.{drop-drop}
use Rattle.mh_grammar.proofs.Lists.{recursion-append}
use Rattle.mh_msgfile.specs.Lines.{is_blank, is_ignored_line}
use Rattle.mh_msgfile.specs.Sentences.{Vocabulary, LineResult, IsSentence, IsUnreadable, NamesNoStart, LacksStart, NamesUnknown, sentence_in}
use Rattle.mh_msgfile.specs.declared.messages.MsgSentence.{MsgSentence}
use Rattle.mh_msgfile.proofs.PrintedAgain.{filter_on, is_kept_text}
use Rattle.mh_msgfile.proofs.LineEnds.{with_ends, IsReadUnchanged}
use Rattle.mh_update.specs.declared.comment.Comment.{Comment}
use Rattle.mh_grammar.specs.Text.{Text}
use Rattle.mh_update.specs.Updates.{updated_from, is_generated, kept_text, kept_texts_of}

-- ---- Places of lines.

-- Where the reader is before a line: outside an entry, among the sentences of an entry, between the sentences and the
-- message, or in the message.
pub data LinePlace : Type 0 where
  Outside : LinePlace
  Sentences : LinePlace
  BeforeMessage : LinePlace
  Message : LinePlace

-- The kind of a line: it begins with `#`, it is blank, or it has words.
pub data MessagesLineKind : Type 0 where
  Remark : MessagesLineKind
  Blank : MessagesLineKind
  Words : MessagesLineKind

abbrev pub kind_by : Bool → Bool → MessagesLineKind
kind_by true blank = Remark
kind_by false true = Blank
kind_by false false = Words

abbrev pub kind_of : Text → MessagesLineKind
kind_of line = kind_by (is_ignored_line line) (list_all is_blank line)

-- The place of the next line.
abbrev pub place_of_next_line : MessagesLineKind → LinePlace → LinePlace
place_of_next_line Remark place = place
place_of_next_line Blank Outside = Outside
place_of_next_line Blank Sentences = BeforeMessage
place_of_next_line Blank BeforeMessage = BeforeMessage
place_of_next_line Blank Message = Outside
place_of_next_line Words Outside = Sentences
place_of_next_line Words Sentences = Sentences
place_of_next_line Words BeforeMessage = Message
place_of_next_line Words Message = Message

-- What a sentence line says: the number of the start, and the tokens.
abbrev pub SentenceContent : Type 0
SentenceContent = ℕ × List ℕ

-- The start and the tokens of a line that is a sentence.
abbrev pub content_in : LineResult → Option SentenceContent
content_in (IsSentence s) = Some (s.start, s.tokens)
content_in IsUnreadable = None
content_in (NamesNoStart name) = None
content_in LacksStart = None
content_in (NamesUnknown name) = None

-- The start and the tokens of a line of this kind at this place, if it is a sentence line.
abbrev pub sentence_content : MessagesLineKind → LinePlace → LineResult → Option SentenceContent
sentence_content Remark place found = None
sentence_content Blank place found = None
sentence_content Words Outside found = content_in found
sentence_content Words Sentences found = content_in found
sentence_content Words BeforeMessage found = None
sentence_content Words Message found = None

abbrev pub with_sentence : ℕ → Option SentenceContent → List MsgSentence → List MsgSentence
with_sentence number None xs = xs
with_sentence number (Some c) xs = record { line = number; start = c.0; tokens = c.1 } ∷ xs

-- The sentences of these lines, which follow `before` other lines.
abbrev pub sentences : Vocabulary → LinePlace → ℕ → List Text → List MsgSentence
sentences v place before [] = []
sentences v place before (line ∷ lines) = with_sentence (before + 1) (sentence_content (kind_of line) place (sentence_in v line)) (sentences v (place_of_next_line (kind_of line) place) (before + 1) lines)

-- ---- Generated lines.

abbrev pub IsGeneratedLine : Text → Type 0
IsGeneratedLine line = (is_generated line ≡ true) × IsReadUnchanged line

made_here : (b : ℕ) (line : Text) → is_generated (b ∷ line) ≡ true → (b == 35) ≡ true
made_here b line is =
    let same : 35 ≡ b = eqb-true 35 b (and_parts (35 == b) (pointwise nat_eq (35 ∷ []) (take 1 line)) is).0 in
    subst (λ (k : ℕ). (k == 35) ≡ true) same refl

pub generated_is_ignored : (line : Text) → is_generated line ≡ true → is_ignored_line line ≡ true
generated_is_ignored [] is = is
generated_is_ignored (b ∷ line) is = made_here b line is

pub generated_is_remark : (line : Text) → is_generated line ≡ true → kind_of line ≡ Remark
generated_is_remark line is = ap (λ (b : Bool). kind_by b (list_all is_blank line)) (generated_is_ignored line is)

-- ---- Walks.

-- A walk over the lines of a file from a place on. Generated lines are dropped; each other line either is no sentence
-- line, or is a sentence line that comment lines follow.
-- `comment_blocks` has, for each sentence line, the comment lines to insert after it.
-- `IsCommentOf` relates the content of a sentence line to the text of its comment lines.
pub data Walk (v : Vocabulary) (IsCommentOf : SentenceContent → Text → Type 0) : LinePlace → List Text → List (List Text) → Type 0 where
  Ended : (place : LinePlace) → Walk v IsCommentOf place [] []
  Dropped : (place : LinePlace) (line : Text) (lines : List Text) (comment_blocks : List (List Text)) → is_generated line ≡ true → Walk v IsCommentOf place lines comment_blocks → Walk v IsCommentOf place (line ∷ lines) comment_blocks
  Uncommented : (place : LinePlace) (line : Text) (lines : List Text) (comment_blocks : List (List Text)) → is_generated line ≡ false → sentence_content (kind_of line) place (sentence_in v line) ≡ None
      → Walk v IsCommentOf (place_of_next_line (kind_of line) place) lines comment_blocks → Walk v IsCommentOf place (line ∷ lines) comment_blocks
  Commented : (place : LinePlace) (line : Text) (lines : List Text) (content : SentenceContent) (comment_block : List Text) (comment_blocks : List (List Text)) → is_generated line ≡ false → sentence_content (kind_of line) place (sentence_in v line) ≡ Some content
      → IsCommentOf content (with_ends comment_block) → AllByRecursion IsGeneratedLine comment_block → Walk v IsCommentOf (place_of_next_line (kind_of line) place) lines comment_blocks → Walk v IsCommentOf place (line ∷ lines) (comment_block ∷ comment_blocks)

module _ (v : Vocabulary) (IsCommentOf : SentenceContent → Text → Type 0) where
  -- The lines of the updated file.
  abbrev pub updated_lines : (place : LinePlace) (lines : List Text) (comment_blocks : List (List Text)) → Walk v IsCommentOf place lines comment_blocks → List Text
  updated_lines place lines comment_blocks (Ended p) = []
  updated_lines place lines comment_blocks (Dropped p x xs ls made walk) = updated_lines p xs ls walk
  updated_lines place lines comment_blocks (Uncommented p x xs ls own none walk) = x ∷ updated_lines (place_of_next_line (kind_of x) p) xs ls walk
  updated_lines place lines comment_blocks (Commented p x xs c l ls own some is all walk) = x ∷ (l ++ updated_lines (place_of_next_line (kind_of x) p) xs ls walk)

  -- The text of the updated file.
  abbrev pub text_of : (place : LinePlace) (lines : List Text) (comment_blocks : List (List Text)) → Walk v IsCommentOf place lines comment_blocks → Text
  text_of place lines comment_blocks (Ended p) = []
  text_of place lines comment_blocks (Dropped p x xs ls made walk) = text_of p xs ls walk
  text_of place lines comment_blocks (Uncommented p x xs ls own none walk) = (x ++ 10 ∷ []) ++ text_of (place_of_next_line (kind_of x) p) xs ls walk
  text_of place lines comment_blocks (Commented p x xs c l ls own some is all walk) = (x ++ 10 ∷ []) ++ (with_ends l ++ text_of (place_of_next_line (kind_of x) p) xs ls walk)

  -- The comments of the walk, with the numbers of the sentence lines; `before` lines precede the walk.
  abbrev pub comments_of : (before : ℕ) (place : LinePlace) (lines : List Text) (comment_blocks : List (List Text)) → Walk v IsCommentOf place lines comment_blocks → List Comment
  comments_of before place lines comment_blocks (Ended p) = []
  comments_of before place lines comment_blocks (Dropped p x xs ls made walk) = comments_of (before + 1) p xs ls walk
  comments_of before place lines comment_blocks (Uncommented p x xs ls own none walk) = comments_of (before + 1) (place_of_next_line (kind_of x) p) xs ls walk
  comments_of before place lines comment_blocks (Commented p x xs c l ls own some is all walk) = record { line = before + 1; text = with_ends l } ∷ comments_of (before + 1) (place_of_next_line (kind_of x) p) xs ls walk

  -- The text of the updated lines is the text of the walk.
  pub updated_text : (place : LinePlace) (lines : List Text) (comment_blocks : List (List Text)) (walk : Walk v IsCommentOf place lines comment_blocks) → with_ends (updated_lines place lines comment_blocks walk) ≡ text_of place lines comment_blocks walk
  updated_text place lines comment_blocks (Ended p) = refl
  updated_text place lines comment_blocks (Dropped p x xs ls made walk) = updated_text p xs ls walk
  updated_text place lines comment_blocks (Uncommented p x xs ls own none walk) = ap (λ (l : Text). (x ++ 10 ∷ []) ++ l) (updated_text (place_of_next_line (kind_of x) p) xs ls walk)
  updated_text place lines comment_blocks (Commented p x xs c l ls own some is all walk) =
      ap (λ (t : Text). (x ++ 10 ∷ []) ++ t)
      (flat_map-append (λ (line : Text). line ++ 10 ∷ []) l (updated_lines (place_of_next_line (kind_of x) p) xs ls walk) ∙ ap (λ (t : Text). with_ends l ++ t) (updated_text (place_of_next_line (kind_of x) p) xs ls walk))

  -- ---- The walk over the updated file.

  -- The walk over lines that begin with generated lines, which it drops.
  abbrev pub dropping_generated : (place : LinePlace) (comment_block lines : List Text) (comment_blocks : List (List Text)) → AllByRecursion IsGeneratedLine comment_block → Walk v IsCommentOf place lines comment_blocks → Walk v IsCommentOf place (comment_block ++ lines) comment_blocks
  dropping_generated place [] lines comment_blocks all walk = walk
  dropping_generated place (line ∷ comment_block) lines comment_blocks all walk = Dropped place line (comment_block ++ lines) comment_blocks all.0.0 (dropping_generated place comment_block lines comment_blocks all.1 walk)

  drops_text : (place : LinePlace) (comment_block lines : List Text) (comment_blocks : List (List Text)) (all : AllByRecursion IsGeneratedLine comment_block) (walk : Walk v IsCommentOf place lines comment_blocks) → text_of place (comment_block ++ lines) comment_blocks (dropping_generated place comment_block lines comment_blocks all walk) ≡ text_of place lines comment_blocks walk
  drops_text place [] lines comment_blocks all walk = refl
  drops_text place (line ∷ comment_block) lines comment_blocks all walk = drops_text place comment_block lines comment_blocks all.1 walk

  abbrev pub walk_again : (place : LinePlace) (lines : List Text) (comment_blocks : List (List Text)) (walk : Walk v IsCommentOf place lines comment_blocks) → Walk v IsCommentOf place (updated_lines place lines comment_blocks walk) comment_blocks
  walk_again place lines comment_blocks (Ended p) = Ended p
  walk_again place lines comment_blocks (Dropped p x xs ls made walk) = walk_again p xs ls walk
  walk_again place lines comment_blocks (Uncommented p x xs ls own none walk) = Uncommented p x (updated_lines (place_of_next_line (kind_of x) p) xs ls walk) ls own none (walk_again (place_of_next_line (kind_of x) p) xs ls walk)
  walk_again place lines comment_blocks (Commented p x xs c l ls own some is all walk) =
      Commented p x (l ++ updated_lines (place_of_next_line (kind_of x) p) xs ls walk) c l ls own some is all (dropping_generated (place_of_next_line (kind_of x) p) l (updated_lines (place_of_next_line (kind_of x) p) xs ls walk) ls all (walk_again (place_of_next_line (kind_of x) p) xs ls walk))

  -- The walk over the updated lines has the same text.
  pub again_text : (place : LinePlace) (lines : List Text) (comment_blocks : List (List Text)) (walk : Walk v IsCommentOf place lines comment_blocks) → text_of place (updated_lines place lines comment_blocks walk) comment_blocks (walk_again place lines comment_blocks walk) ≡ text_of place lines comment_blocks walk
  again_text place lines comment_blocks (Ended p) = refl
  again_text place lines comment_blocks (Dropped p x xs ls made walk) = again_text p xs ls walk
  again_text place lines comment_blocks (Uncommented p x xs ls own none walk) = ap (λ (l : Text). (x ++ 10 ∷ []) ++ l) (again_text (place_of_next_line (kind_of x) p) xs ls walk)
  again_text place lines comment_blocks (Commented p x xs c l ls own some is all walk) =
      ap (λ (t : Text). (x ++ 10 ∷ []) ++ (with_ends l ++ t))
      (drops_text (place_of_next_line (kind_of x) p) l (updated_lines (place_of_next_line (kind_of x) p) xs ls walk) ls all (walk_again (place_of_next_line (kind_of x) p) xs ls walk) ∙ again_text (place_of_next_line (kind_of x) p) xs ls walk)

  -- ---- The updated lines.

  made_whole : (lines : List Text) → AllByRecursion IsGeneratedLine lines → AllByRecursion IsReadUnchanged lines
  made_whole [] all = tt
  made_whole (line ∷ lines) all = (all.0.1, made_whole lines all.1)

  -- If all lines of the file are read unchanged, so are all lines of the updated file.
  pub updated_lines_read_unchanged : (place : LinePlace) (lines : List Text) (comment_blocks : List (List Text)) (walk : Walk v IsCommentOf place lines comment_blocks) → AllByRecursion IsReadUnchanged lines → AllByRecursion IsReadUnchanged (updated_lines place lines comment_blocks walk)
  updated_lines_read_unchanged place lines comment_blocks (Ended p) all = tt
  updated_lines_read_unchanged place lines comment_blocks (Dropped p x xs ls made walk) all = updated_lines_read_unchanged p xs ls walk all.1
  updated_lines_read_unchanged place lines comment_blocks (Uncommented p x xs ls own none walk) all = (all.0, updated_lines_read_unchanged (place_of_next_line (kind_of x) p) xs ls walk all.1)
  updated_lines_read_unchanged place lines comment_blocks (Commented p x xs c l ls own some is made walk) all =
      (all.0, recursion-append IsReadUnchanged l (updated_lines (place_of_next_line (kind_of x) p) xs ls walk) (made_whole l made) (updated_lines_read_unchanged (place_of_next_line (kind_of x) p) xs ls walk all.1))

  one_more : (x : Text) (xs ys : List Text) → filter is_kept_text xs ≡ filter is_kept_text ys → filter is_kept_text (x ∷ xs) ≡ filter is_kept_text (x ∷ ys)
  one_more x xs ys same =
      filter_on is_kept_text x xs (is_kept_text x) refl ∙ ap (λ (l : List Text). if is_kept_text x then x ∷ l else l) same ∙ sym (filter_on is_kept_text x ys (is_kept_text x) refl)

  made_out : (x : Text) (xs : List Text) → is_generated x ≡ true → filter is_kept_text (x ∷ xs) ≡ filter is_kept_text xs
  made_out x xs made = filter_on is_kept_text x xs false (ap not (generated_is_ignored x made))

  generated_filtered_out : (comment_block lines : List Text) → AllByRecursion IsGeneratedLine comment_block → filter is_kept_text (comment_block ++ lines) ≡ filter is_kept_text lines
  generated_filtered_out [] lines all = refl
  generated_filtered_out (x ∷ comment_block) lines all = made_out x (comment_block ++ lines) all.0.0 ∙ generated_filtered_out comment_block lines all.1

  -- The lines that are not ignored are the same in the updated file.
  pub updated_keeps_lines : (place : LinePlace) (lines : List Text) (comment_blocks : List (List Text)) (walk : Walk v IsCommentOf place lines comment_blocks) → filter is_kept_text (updated_lines place lines comment_blocks walk) ≡ filter is_kept_text lines
  updated_keeps_lines place lines comment_blocks (Ended p) = refl
  updated_keeps_lines place lines comment_blocks (Dropped p x xs ls made walk) = updated_keeps_lines p xs ls walk ∙ sym (made_out x xs made)
  updated_keeps_lines place lines comment_blocks (Uncommented p x xs ls own none walk) = one_more x (updated_lines (place_of_next_line (kind_of x) p) xs ls walk) xs (updated_keeps_lines (place_of_next_line (kind_of x) p) xs ls walk)
  updated_keeps_lines place lines comment_blocks (Commented p x xs c l ls own some is made walk) =
      one_more x (l ++ updated_lines (place_of_next_line (kind_of x) p) xs ls walk) xs (generated_filtered_out l (updated_lines (place_of_next_line (kind_of x) p) xs ls walk) made ∙ updated_keeps_lines (place_of_next_line (kind_of x) p) xs ls walk)

  -- ---- The text of a walk is the updated text as `IsUpdated` defines it (`updated_from`).

  own_none : (line : Text) → is_generated line ≡ true → kept_text line ≡ []
  own_none line made = rw made refl

  own_some : (line : Text) → is_generated line ≡ false → kept_text line ≡ line ++ 10 ∷ []
  own_some line own = rw own refl

  own_push : (before : List Text) (line : Text) → kept_texts_of (before ++ line ∷ []) ≡ kept_texts_of before ++ kept_text line
  own_push before line = flat_map-append kept_text before (line ∷ []) ∙ ap (λ (t : Text). kept_texts_of before ++ t) (append-nil (kept_text line))

  -- The lines `waiting`, after the first `written` lines, are not written yet, and `lines` follow them.
  pub record AreUnwritten (all : List Text) (written before : ℕ) (waiting lines : List Text) : Type 0 where
    pub place : written + length waiting ≡ before
    pub rest : drop written all ≡ waiting ++ lines

  waits_more : (all : List Text) (written before : ℕ) (waiting : List Text) (line : Text) (lines : List Text) → AreUnwritten all written before waiting (line ∷ lines) → AreUnwritten all written (before + 1) (waiting ++ line ∷ []) lines
  waits_more all written before waiting line lines w = record {
    place = let long : length (waiting ++ line ∷ []) ≡ length waiting + 1 = length-append waiting (line ∷ []) in omega (arith, long, w.place);
    rest = w.rest ∙ sym (append_assoc waiting (line ∷ []) lines);
  }

  -- After a sentence line, all lines up to it are written.
  waits_told : (all : List Text) (written before : ℕ) (waiting : List Text) (line : Text) (lines : List Text) → AreUnwritten all written before waiting (line ∷ lines)
      → (take (before + 1 - written) (drop written all) ≡ waiting ++ line ∷ []) × AreUnwritten all (before + 1) (before + 1) [] lines
  waits_told all written before waiting line lines w =
      let long : length (waiting ++ line ∷ []) ≡ length waiting + 1 = length-append waiting (line ∷ []) in
      let size : before + 1 - written ≡ length (waiting ++ line ∷ []) = omega (arith, long, w.place) in
      let place : written + length (waiting ++ line ∷ []) ≡ before + 1 = omega (arith, long, w.place) in
      let parts : drop written all ≡ (waiting ++ line ∷ []) ++ lines = w.rest ∙ sym (append_assoc waiting (line ∷ []) lines) in (
        ap (λ (n : ℕ). take n (drop written all)) size ∙ ap (take (length (waiting ++ line ∷ []))) parts ∙ take-append_seam (waiting ++ line ∷ []) lines,
        record {
          place = let e : before + 1 + 0 ≡ before + 1 = omega arith in e;
          rest = ap (λ (n : ℕ). drop n all) (sym place) ∙ sym (drop-drop (length (waiting ++ line ∷ [])) written all) ∙ ap (drop (length (waiting ++ line ∷ []))) parts ∙ drop-append_seam (waiting ++ line ∷ []) lines;
        },
      )

  pub text_is : (all : List Text) (written before : ℕ) (waiting : List Text) (place : LinePlace) (lines : List Text) (comment_blocks : List (List Text)) (walk : Walk v IsCommentOf place lines comment_blocks) → AreUnwritten all written before waiting lines
      → kept_texts_of waiting ++ text_of place lines comment_blocks walk ≡ updated_from written all (comments_of before place lines comment_blocks walk)
  text_is all written before waiting place lines comment_blocks (Ended p) w =
      append-nil (kept_texts_of waiting) ∙ ap kept_texts_of (sym (w.rest ∙ append-nil waiting))
  text_is all written before waiting place lines comment_blocks (Dropped p x xs ls made walk) w =
      ap (λ (t : Text). t ++ text_of p xs ls walk) (sym (own_push waiting x ∙ ap (λ (t : Text). kept_texts_of waiting ++ t) (own_none x made) ∙ append-nil (kept_texts_of waiting)))
      ∙ text_is all written (before + 1) (waiting ++ x ∷ []) p xs ls walk (waits_more all written before waiting x xs w)
  text_is all written before waiting place lines comment_blocks (Uncommented p x xs ls own none walk) w =
      sym (append_assoc (kept_texts_of waiting) (x ++ 10 ∷ []) (text_of (place_of_next_line (kind_of x) p) xs ls walk))
      ∙ ap (λ (t : Text). t ++ text_of (place_of_next_line (kind_of x) p) xs ls walk) (sym (own_push waiting x ∙ ap (λ (t : Text). kept_texts_of waiting ++ t) (own_some x own)))
      ∙ text_is all written (before + 1) (waiting ++ x ∷ []) (place_of_next_line (kind_of x) p) xs ls walk (waits_more all written before waiting x xs w)
  text_is all written before waiting place lines comment_blocks (Commented p x xs c l ls own some is made walk) w =
      let sentence_content = waits_told all written before waiting x xs w in
      let later : text_of (place_of_next_line (kind_of x) p) xs ls walk ≡ updated_from (before + 1) all (comments_of (before + 1) (place_of_next_line (kind_of x) p) xs ls walk) =
      text_is all (before + 1) (before + 1) [] (place_of_next_line (kind_of x) p) xs ls walk sentence_content.1 in
      let first : kept_texts_of waiting ++ (x ++ 10 ∷ []) ≡ kept_texts_of (take (before + 1 - written) (drop written all)) =
      sym (ap kept_texts_of sentence_content.0 ∙ own_push waiting x ∙ ap (λ (t : Text). kept_texts_of waiting ++ t) (own_some x own)) in
      sym (append_assoc (kept_texts_of waiting) (x ++ 10 ∷ []) (with_ends l ++ text_of (place_of_next_line (kind_of x) p) xs ls walk))
      ∙ ap (λ (t : Text). t ++ (with_ends l ++ text_of (place_of_next_line (kind_of x) p) xs ls walk)) first
      ∙ ap (λ (t : Text). kept_texts_of (take (before + 1 - written) (drop written all)) ++ (with_ends l ++ t)) later
      ∙ sym (append_assoc (kept_texts_of (take (before + 1 - written) (drop written all))) (with_ends l) (updated_from (before + 1) all (comments_of (before + 1) (place_of_next_line (kind_of x) p) xs ls walk)))
