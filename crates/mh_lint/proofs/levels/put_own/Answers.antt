use Rattle.std.proofs.Common.{◌≡◌, ap, inl, inr, sym, ◌∙◌}
use Rattle.mh_reader_places.specs.declared.mentions.Role.TheVariants as roles
use Rattle.mh_lint.proofs.levels.put_own.Goals as goal

pub returns-in_ok-put_key-in-Prec : goal.returns-in_ok-put_key-in-Prec
returns-in_ok-put_key-in-Prec c = λ n. (
  λ there. elim ((c.in_ok-put_key-in-Prec.ensures.keys n).0 there) [ inl had ↦ inl had | inr same ↦ inr (c.in-Prec.is ∙ ap roles.Prec (sym same)) ],
  λ h. elim h [ inl had ↦ (c.in_ok-put_key-in-Prec.ensures.keys n).1 (inl had) | inr e ↦ (c.in_ok-put_key-in-Prec.ensures.keys n).1 (inr (let roles_same : roles.Prec n ≡ roles.Prec c.in-Prec.alternative = sym e ∙ c.in-Prec.is in let number : n ≡ c.in-Prec.alternative = cc in number)) ],
)

pub returns-in_default : goal.returns-in_default
returns-in_default c = λ n. (λ there. inl there, λ h. elim h [ inl had ↦ had | inr e ↦ absurd (c.in_default.not-Prec n e) ])
