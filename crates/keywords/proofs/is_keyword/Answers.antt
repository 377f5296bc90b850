-- `is_keyword` meets its contract: from the laws of proofs/ and what its callees ensure. Assumes nothing.
use mathlib.Core.Path.{◌∙◌}
use native.Mathlib.Omega.{arith}
use Rattle.std.proofs.lemmas.Grind.{common_steps}
use Rattle.keywords.proofs.Initials.{no_letters, one_word, starts, starts_other}
use Rattle.keywords.proofs.is_keyword.Goals as goal

pub returns-then-w-eq0 : goal.returns-then-w-eq0
returns-then-w-eq0 c = no_letters c.args.w.now c.if-w-eq0.true

pub returns-in-65 : goal.returns-in-65
returns-in-65 c = c.keyword_a.ensures ∙ starts c.args.w.now 0x41 (omega arith) c.in-65.is

pub returns-in-67 : goal.returns-in-67
returns-in-67 c = one_word _ _ _ c.same_bytes.ensures ∙ starts c.args.w.now 0x43 (omega arith) c.in-67.is

pub returns-in-69 : goal.returns-in-69
returns-in-69 c = one_word _ _ _ c.same_bytes-in-69.ensures ∙ starts c.args.w.now 0x45 (omega arith) c.in-69.is

pub returns-in-70 : goal.returns-in-70
returns-in-70 c = one_word _ _ _ c.same_bytes-in-70.ensures ∙ starts c.args.w.now 0x46 (omega arith) c.in-70.is

pub returns-in-71 : goal.returns-in-71
returns-in-71 c = one_word _ _ _ c.same_bytes-in-71.ensures ∙ starts c.args.w.now 0x47 (omega arith) c.in-71.is

pub returns-in-73 : goal.returns-in-73
returns-in-73 c = one_word _ _ _ c.same_bytes-in-73.ensures ∙ starts c.args.w.now 0x49 (omega arith) c.in-73.is

pub returns-in-76 : goal.returns-in-76
returns-in-76 c = c.keyword_l.ensures ∙ starts c.args.w.now 0x4c (omega arith) c.in-76.is

pub returns-in-78 : goal.returns-in-78
returns-in-78 c = c.keyword_n.ensures ∙ starts c.args.w.now 0x4e (omega arith) c.in-78.is

pub returns-in-79 : goal.returns-in-79
returns-in-79 c = one_word _ _ _ c.same_bytes-in-79.ensures ∙ starts c.args.w.now 0x4f (omega arith) c.in-79.is

pub returns-in-80 : goal.returns-in-80
returns-in-80 c = c.keyword_p.ensures ∙ starts c.args.w.now 0x50 (omega arith) c.in-80.is

pub returns-in-83 : goal.returns-in-83
returns-in-83 c = c.keyword_s.ensures ∙ starts c.args.w.now 0x53 (omega arith) c.in-83.is

pub returns-in-84 : goal.returns-in-84
returns-in-84 c = c.keyword_t.ensures ∙ starts c.args.w.now 0x54 (omega arith) c.in-84.is

pub returns-in-85 : goal.returns-in-85
returns-in-85 c = c.keyword_u.ensures ∙ starts c.args.w.now 0x55 (omega arith) c.in-85.is

pub returns-in-86 : goal.returns-in-86
returns-in-86 c = one_word _ _ _ c.same_bytes-in-86.ensures ∙ starts c.args.w.now 0x56 (omega arith) c.in-86.is

pub returns-in-90 : goal.returns-in-90
returns-in-90 c = one_word _ _ _ c.same_bytes-in-90.ensures ∙ starts c.args.w.now 0x5a (omega arith) c.in-90.is

pub returns-in_default : goal.returns-in_default
returns-in_default c = grind (arith, common_steps, starts_other)
