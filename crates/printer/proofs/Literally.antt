-- A literal's row that refusal 4 leaves, and the word that it is printed as.
use mathlib.Core.Path.{◌≡◌, refl, sym, ap, ◌∙◌}
use mathlib.Core.Bool.{Bool, true, false, false≢true, cond, ◌&&◌, ◌||◌}
use mathlib.Core.Logic.{◌⊎◌, inl, inr, ⊎_elim}
use mathlib.Core.List.{List}
use Prim.Native.Nat.{ℕ, ◌+◌, ◌/◌, ◌≤◌, ◌<◌}
use native.Mathlib.Omega.{arith}
use native.Mathlib.Decide.{dec_le}
use lib.Dec.{eqb, leb, ltb}
use lib.ListN.{length}
use borrow.Author.Tests.{leb-true, ltb-true, eqb-true, le-leb, eq-eqb, ne_eqb}
use Rattle.content.specs.WrongByte.{valid_content}
use Rattle.content.specs.declared.Row.{Row}
use Rattle.tables.specs.Rows.{is_group, group_sound, character_sound, is_numeric, field_size, digits_sound, row_sound, part, lies_in}
use Rattle.tables.specs.Tables.{literal_sound}
use Rattle.tables.proofs.Tests.{both, four, either, and_both}
use Rattle.tables.proofs.Bytes.{part_length, row_facts, numeric-kinds}
use Rattle.spelling.specs.Literals.{Literal, row_of_literal, quoted, pointed, written}
use Rattle.spelling.proofs.Laying.{of_literal_kind}
use Rattle.printer.specs.Prints.{literal_of}

-- digits after the point are among the bytes
scale_within : (r : Row) → row_sound r ≡ true → (bytes : List ℕ) → of_literal_kind (literal_of r bytes) ≡ true → r.scale ≤ r.size
scale_within r e bytes k =
    ⊎_elim
    (λ u. ⊎_elim group characters (either (group_sound r) (character_sound r) u))
    digits
    (either (group_sound r || character_sound r) (is_numeric r && digits_sound r) (both (leb r.offset 65535) _ e).1)
  where
    group : group_sound r ≡ true → r.scale ≤ r.size
    group w =
        let f = four (is_group r) (leb 1 r.size) (leb r.size 65535) (eqb r.scale 0) (both _ (eqb r.digits 0) w).0 in
        omega (arith, eqb-true r.scale 0 f.3)

    characters : character_sound r ≡ true → r.scale ≤ r.size
    characters w =
        let f = four (eqb r.kind 1 || eqb r.kind 2) (leb 1 r.size) (leb r.size 256) (eqb r.scale 0) (both _ (eqb r.digits 0) w).0 in
        omega (arith, eqb-true r.scale 0 f.3)

    digits : is_numeric r && digits_sound r ≡ true → r.scale ≤ r.size
    digits w =
        let f = four (leb 1 r.digits) (leb r.digits 18) (leb r.scale r.digits) (eqb r.size (field_size r.kind r.digits))
        (both (is_numeric r) (digits_sound r) w).1 in
        let scale : r.scale ≤ r.digits = leb-true _ _ f.2 in
        let size : r.size ≡ field_size r.kind r.digits = eqb-true _ _ f.3 in
        omega (arith, scale, size, whole (eqb r.kind 5 || eqb r.kind 6) (eqb r.kind 8 || eqb r.kind 9) (no_packed r.kind k) r.digits)
      where
        no_packed : (n : ℕ) → eqb n 2 || eqb n 3 || eqb n 5 ≡ true → eqb n 8 || eqb n 9 ≡ false
        no_packed n h =
            ⊎_elim
            (λ u. ⊎_elim (λ p. rw (eqb-true n 2 p)) (λ p. rw (eqb-true n 3 p)) (either (eqb n 2) (eqb n 3) u))
            (λ p. rw (eqb-true n 5 p))
            (either (eqb n 2 || eqb n 3) (eqb n 5) h)

        whole : (s t : Bool) → t ≡ false → (d : ℕ) → d ≤ cond s (d + 1) (cond t (d / 2 + 1) d)
        whole true t h d = omega arith
        whole false t h d = rw h (omega arith)

-- a literal has at most 256 bytes
size_small : (r : Row) → row_sound r ≡ true → (bytes : List ℕ) → of_literal_kind (literal_of r bytes) ≡ true → r.size ≤ 256
size_small r e bytes k =
    ⊎_elim
    (λ u. ⊎_elim group characters (either (group_sound r) (character_sound r) u))
    digits
    (either (group_sound r || character_sound r) (is_numeric r && digits_sound r) (both (leb r.offset 65535) _ e).1)
  where
    group : group_sound r ≡ true → r.size ≤ 256
    group w =
        ⊎_elim
        (λ (g : eqb r.kind 0 ≡ true). let bad : false ≡ true = rw (eqb-true r.kind 0 g) at k in absurd (false≢true bad))
        (λ (g : eqb r.kind 7 ≡ true). let bad : false ≡ true = rw (eqb-true r.kind 7 g) at k in absurd (false≢true bad))
        (either (eqb r.kind 0) (eqb r.kind 7) (four (is_group r) (leb 1 r.size) (leb r.size 65535) (eqb r.scale 0) (both _ (eqb r.digits 0) w).0).0)

    characters : character_sound r ≡ true → r.size ≤ 256
    characters w =
        leb-true _ _ (four (eqb r.kind 1 || eqb r.kind 2) (leb 1 r.size) (leb r.size 256) (eqb r.scale 0) (both _ (eqb r.digits 0) w).0).2

    digits : is_numeric r && digits_sound r ≡ true → r.size ≤ 256
    digits w =
        ⊎_elim (λ m. by (dec_le r.kind 4) m) (λ m. omega (arith, (row_facts r e).packed m.0))
        (numeric-kinds r.kind (both (is_numeric r) (digits_sound r) w).0)
      where
        by : Dec (r.kind ≤ 4) → (3 ≤ r.kind) × (r.kind ≤ 6) → r.size ≤ 256
        by (yes h) m = omega (arith, (row_facts r e).plain m.0 h)
        by (no h) m = omega (arith, (row_facts r e).apart (omega arith) m.1)

module _ (r : Row) (content : List ℕ) (e : literal_sound content r ≡ true) where
  facts : (row_sound r ≡ true) × (of_literal_kind (literal_of r content) ≡ true) × (lies_in r content ≡ true)
  facts =
      let a = (both (row_sound r && of_literal_kind (literal_of r content) && lies_in r content) (valid_content r.kind r.digits (part r content)) e).0 in
      let b = both (row_sound r && of_literal_kind (literal_of r content)) (lies_in r content) a in
      let d = both (row_sound r) (of_literal_kind (literal_of r content)) b.0 in
      (d.0, d.1, b.1)

  pub lies : r.offset + r.size ≤ length content
  lies = leb-true _ _ facts.2

  size_is : length (part r content) ≡ r.size
  size_is = part_length r content lies

  pub small : length (part r content) ≤ 256
  small = omega (arith, size_is, size_small r facts.0 content facts.1)

  pub scaled : r.scale ≤ length (part r content)
  scaled = omega (arith, scale_within r facts.0 content facts.1, size_is)

  pub in_quotes : r.kind ≡ 2 → written (literal_of r content) ≡ quoted (part r content)
  in_quotes k = rw (eq-eqb r.kind 2 k)

  pub with_point : (r.kind ≡ 2 → ⊥) → written (literal_of r content) ≡ pointed r.scale (part r content)
  with_point k = rw (ne_eqb r.kind 2 k)
