-- Names in a description, and the item that has a byte.
use Rattle.std.proofs.Common.{◌≡◌, ℕ, suc, ◌+◌, ◌-◌, ◌<◌, ◌≤◌, true, false, List, [], ◌++◌, length, get_or, take, drop, sym, ap, ◌∙◌, append-nil, add-one, arith, drop_of_length-le, take_all, drop-cons, take-suc}
use lib.Seq.{append_snoc}
use Rattle.tables.specs.Rows.{row_at, is_group}
use Rattle.logbook_program.specs.Worded.{ends_name, name_in, has_byte, first_with}

-- no byte before `end` ends the name
abbrev pub Naming : List ℕ → ℕ → Type 0
Naming rest end = take end rest ++ name_in (drop end rest) ≡ name_in rest

module _ (rest : List ℕ) (end : ℕ) (n : Naming rest end) where
  pub name_goes_on : end < length rest → ends_name (get_or rest end 0) ≡ false → Naming rest (end + 1)
  unfolding name_in
  name_goes_on h e =
      rw (add-one end) (ap (λ (l : List ℕ). l ++ name_in (drop (suc end) rest)) (take-suc rest end 0 h)
      ∙ append_snoc (take end rest) (get_or rest end 0) (name_in (drop (suc end) rest))
      ∙ ap (λ (l : List ℕ). take end rest ++ l) (sym (ap name_in (drop-cons rest end 0 h) ∙ rw e)) ∙ n)

  pub name_ends : end < length rest → ends_name (get_or rest end 0) ≡ true → take end rest ≡ name_in rest
  unfolding name_in
  name_ends h e =
      sym (append-nil (take end rest)) ∙ ap (λ (l : List ℕ). take end rest ++ l) (sym (ap name_in (drop-cons rest end 0 h) ∙ rw e)) ∙ n

  pub name_is_all : length rest ≤ end → rest ≡ name_in rest
  unfolding name_in
  name_is_all h =
      sym (take_all end rest h) ∙ sym (append-nil (take end rest)) ∙ ap (λ (l : List ℕ). take end rest ++ l) (sym (ap name_in (drop_of_length-le rest {i = end} h))) ∙ n

pub nameless : (description : List ℕ) (place : ℕ) → length description ≤ place → [] ≡ name_in (drop place description)
unfolding name_in
nameless description place h = sym (ap name_in (drop_of_length-le description {i = place} h))

module _ (items : List ℕ) (byte count v : ℕ) (h : v < count) where
  left : count - v ≡ suc (count - (v + 1))
  left = omega arith

  pub item_here : is_group (row_at items v) ≡ false → has_byte (row_at items v) byte ≡ true → v ≡ first_with items byte v (count - v)
  unfolding first_with
  item_here g e = rw (left, g, e)

  pub group_here : is_group (row_at items v) ≡ true → first_with items byte (v + 1) (count - (v + 1)) ≡ first_with items byte v (count - v)
  unfolding first_with
  group_here g = rw (left, g)

  pub other_here : is_group (row_at items v) ≡ false → has_byte (row_at items v) byte ≡ false
      → first_with items byte (v + 1) (count - (v + 1)) ≡ first_with items byte v (count - v)
  unfolding first_with
  other_here g e = rw (left, g, e)

pub none_has : (items : List ℕ) (byte count v : ℕ) → count ≤ v → 64 ≡ first_with items byte v (count - v)
unfolding first_with
none_has items byte count v h = let none : count - v ≡ 0 = omega arith in rw none

pub none_yet : (items : List ℕ) (byte count : ℕ) → first_with items byte 0 (count - 0) ≡ first_with items byte 0 count
none_yet items byte count = let e : count - 0 ≡ count = omega arith in ap (first_with items byte 0) e
