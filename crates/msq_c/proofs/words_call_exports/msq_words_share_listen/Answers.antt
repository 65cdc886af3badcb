use Rattle.std.proofs.Common.{refl, inl, Err, arith}
use Rattle.msq_c.specs.declared.troubles.Trouble.TheVariants.{BadSize}
use Rattle.msq_c.proofs.words_call_exports.msq_words_share_listen.Goals as goal

pub returns-in_default : goal.returns-in_default
returns-in_default c = record {
  answer = Err BadSize;
  code = c.code-in_default.ensures;
  holds = record { full = refl; seat = refl; watched = tt; refused = inl (refl, omega arith); same = refl };
}
