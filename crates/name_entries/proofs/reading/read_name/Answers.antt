-- `read_name` meets its contract: from the laws of proofs/ and what its callees ensure. Assumes nothing.
use native.Mathlib.Omega.{arith}
use mathlib.Core.Path.{sym, ap, ◌∙◌}
use Prim.Native.Nat.{ℕ}
use lib.ListN.{replicate}
use Rattle.std.proofs.lemmas.Result.{err_from_is_err_and}
use Rattle.description.specs.Grammar.{bytes}
use Rattle.condition_names.proofs.Leads.{word-within}
use Rattle.name_entries.proofs.Going.{begun, label_within, valued, value-fault, label_fault}
use Rattle.name_entries.proofs.reading.read_name.Goals as goal

pub literal-requires : goal.literal-requires
literal-requires c = (label_within c.args.text.now c.args.n _ c.requires.0 c.in_ok-k.ensures).1

pub read_values-requires : goal.read_values-requires
read_values-requires c =
    let named = label_within c.args.text.now c.args.n _ c.requires.0 c.in_ok-k.ensures in (
      (word-within (bytes "VALUE") c.args.text.now _ _ named.1 (sym c.in_ok-m.ensures)).1,
      begun c.requires.1.0 (c.clear.ensures ∙ ap (λ (n : ℕ). replicate n 0) c.requires.1.1),
    )

pub returns : goal.returns
returns c =
    let named = label_within c.args.text.now c.args.n _ c.requires.0 c.in_ok-k.ensures in
    valued c.args.text.now c.args.n _ c.in_ok-k.ensures c.read_values.result
    (omega (arith, named.0, (word-within (bytes "VALUE") c.args.text.now _ _ named.1 (sym c.in_ok-m.ensures)).0)) c.in_ok-m.ensures
    c.read_values.ensures

pub returns-in_err-m : goal.returns-in_err-m
returns-in_err-m c =
    let p = err_from_is_err_and c.from_residual-in_err-m.result c.from_residual-in_err-m.ensures.1 in
    rw (p.1, p.2)
    (value-fault c.args.text.now c.args.n _ c.in_ok-k.ensures (c.clear.ensures ∙ ap (λ (n : ℕ). replicate n 0) c.requires.1.1) c.in_err-m.ensures)

pub returns-in_err-k : goal.returns-in_err-k
returns-in_err-k c =
    let p = err_from_is_err_and c.from_residual.result c.from_residual.ensures.1 in
    rw (p.1, p.2) (label_fault c.args.text.now c.args.n (c.clear.ensures ∙ ap (λ (n : ℕ). replicate n 0) c.requires.1.1) c.in_err-k.ensures)
