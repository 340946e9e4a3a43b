-- The first term with a wrong number of arguments.
use Rattle.std.proofs.Common.{◌≡◌, ◌↔◌, ℕ, ◌+◌, ◌<◌, ◌≤◌, List, Option, None, Some, length, sym, ◌∙◌, subst, arith}
use Rattle.std.specs.List.{Contains, slice_get}
use Rattle.std.proofs.lemmas.Option.{slice_get_within}
use Rattle.mh_grammar.specs.Text.{Text}
use Rattle.mh_rules.specs.declared.joined.Joined.{Joined}
use Rattle.mh_reader_places.specs.declared.mentions.Mention.{Mention}
use Rattle.mh_reader_places.specs.declared.mentions.Role.TheVariants as roles
use Rattle.mh_reader_places.specs.declared.reading.PlacedModule.{PlacedModule}
use Rattle.mh_lint_findings.specs.declared.findings.Position.TheVariants.{InFile}
use Rattle.mh_lint_faults.specs.FaultLines.{IsFirstWrongTerm, IsWrongTerm}
use Rattle.mh_lint_faults.specs.code.FirstMentions.{IsFirstWith, IsWrongAt}
use Rattle.mh_lint_faults.specs.code.FirstMentions as first
use Rattle.mh_lint_faults.specs.code.Producers.{IsProducerMention, IsWrongProducer}
use Rattle.mh_lint_faults.specs.declared.arity.ProducerOf.{ProducerOf}
use Rattle.mh_lint_faults.proofs.FirstMentions.{IsFirst, IsMention, NoneIn, first_in}

module _ (j : Joined) (printed : Text) (keys : List ProducerOf) (are : (p : ProducerOf) → Contains keys p ↔ IsWrongProducer j printed p) where
  -- The mention is a head of one of the producers.
  abbrev pub Heads : ℕ → PlacedModule → Mention → Type 0
  Heads file placed x = IsProducerMention keys (file + 1) x

  module _ (found : List PlacedModule) where
    as_mention : (file : ℕ) (before : List Mention) (x : Mention) → IsWrongTerm found j file before x printed → IsMention found Heads file before x
    as_mention file before x t = record {
      of_file = t.of_file;
      is = record {
        place = t.place;
        producer = t.producer;
        role_is = t.role_is;
        is_found = (are (record { file = file + 1; alternative = t.place; producer = t.producer })).1 (record {
          rule = t.rule;
          alternative = t.alternative;
          of_joined = t.of_joined;
          of_rule = t.of_rule;
          is = record {
            term = t.term;
            file_is = sym t.file_is;
            place_is = sym t.place_is;
            of_alternative = t.of_alternative;
            is_wrong = record { closed = t.closed; printed_is = t.printed_is; wrong = t.wrong };
          };
        });
      };
    }

    as_term : (file : ℕ) (before : List Mention) (x : Mention) → IsFirst found Heads file before x → IsWrongTerm found j file before x printed
    as_term file before x f =
        let h = f.here.is in
        let p = (are (record { file = file + 1; alternative = h.place; producer = h.producer })).0 h.is_found in
        record {
          place = h.place;
          producer = h.producer;
          of_file = f.here.of_file;
          role_is = h.role_is;
          first_head = λ y c e. f.none_here y c (record { place = h.place; producer = h.producer; role_is = e ∙ h.role_is; is_found = h.is_found });
          rule = p.rule;
          alternative = p.alternative;
          term = p.is.term;
          of_joined = p.of_joined;
          of_rule = p.of_rule;
          file_is = sym p.is.file_is;
          place_is = sym p.is.place_is;
          of_alternative = p.is.of_alternative;
          closed = p.is.is_wrong.closed;
          printed_is = p.is.is_wrong.printed_is;
          wrong = p.is.is_wrong.wrong;
        }

    pub wrong_at : (file : ℕ) (placed : PlacedModule) (start : ℕ) → slice_get found file ≡ Some placed → NoneIn found Heads file → IsFirstWith (Heads file placed) placed.mentions (Some start) → IsWrongAt found j printed (Some (InFile file start))
    wrong_at file placed start at none is =
        let one = first_in found Heads file placed start at none is in
        let f = one.2 in
        subst (λ s. IsWrongAt found j printed (Some (InFile file s))) (sym one.3)
        (first.IsWrongAt.first file one.0 one.1 (record {
          is = as_term file one.0 one.1 f;
          first_here = λ earlier y later e t. f.first_here earlier y later e (as_mention file earlier y t);
          first_file = λ other others y l t. f.first_file other others y l (as_mention other others y t);
        }))

    pub wrong_nowhere : (n : ℕ) → length found ≤ n → NoneIn found Heads n → IsWrongAt found j printed None
    wrong_nowhere n l none = first.IsWrongAt.none (λ file before x t. none file before x (omega (arith, l, slice_get_within found file t.of_file.placed t.of_file.of_files)) (as_mention file before x t))

-- A head of one of the producers is a head of the producer that its role names.
pub other_head : (keys : List ProducerOf) (file : ℕ) (x : Mention) (place producer : ℕ) → x.role ≡ roles.Head place producer → IsProducerMention keys file x → Contains keys (record { file = file; alternative = place; producer = producer })
other_head keys file x place producer role is =
    let both : roles.Head is.place is.producer ≡ roles.Head place producer = sym is.role_is ∙ role in
    let e : is.place ≡ place = cc in
    let g : is.producer ≡ producer = cc in
    rw (← e, ← g) is.is_found
