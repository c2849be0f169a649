-- The lines of the units, taken from the front.
use Rattle.std.proofs.Common.{◌≡◌, ◌∙◌, ℕ, ◌+◌, ◌-◌, ◌/◌, ◌<◌, ◌≤◌, suc, List, [], ◌++◌, length, take, drop, ap, ap₂, arith, append_assoc, append-nil, sym}
use Rattle.std.proofs.lemmas.List.{length-drop}
use lib.Seq.{take-append_seam, drop-append_seam}
use lib.ListN.{length-append}
use Rattle.q_command.specs.Listing.{first_lines, listing_of, unit_line}

pub no_unit : (bytes : List ℕ) → length bytes < 8 → listing_of bytes ≡ []
no_unit bytes h =
    let none : length bytes / 8 ≡ 0 = omega arith in
    ap (λ n. first_lines n bytes) none

pub one_unit : (bytes : List ℕ) → 8 ≤ length bytes → listing_of bytes ≡ unit_line (take 8 bytes) ++ listing_of (drop 8 bytes)
one_unit bytes h =
    let left : length (drop 8 bytes) ≡ length bytes - 8 = length-drop 8 bytes in
    let one : length bytes / 8 ≡ suc (length (drop 8 bytes) / 8) = omega arith in
    ap (λ n. first_lines n bytes) one

-- the lines so far and those to come are all of them, also after one more unit
pub one_more : (before bytes unit rest all : List ℕ) → bytes ≡ unit ++ rest → length unit ≡ 8 → before ++ listing_of bytes ≡ all
    → (before ++ unit_line unit) ++ listing_of rest ≡ all
one_more before bytes unit rest all split eight e =
    let long : length bytes ≡ length unit + length rest = ap length split ∙ length-append unit rest in
    let first : take 8 bytes ≡ unit = ap (take 8) split ∙ ap (λ n. take n (unit ++ rest)) (sym eight) ∙ take-append_seam unit rest in
    let after : drop 8 bytes ≡ rest = ap (drop 8) split ∙ ap (λ n. drop n (unit ++ rest)) (sym eight) ∙ drop-append_seam unit rest in
    append_assoc before (unit_line unit) (listing_of rest)
    ∙ ap (λ l. before ++ l) (sym (one_unit bytes (omega arith) ∙ ap₂ (λ u r. unit_line u ++ listing_of r) first after)) ∙ e

-- at the end there is no line to come
pub no_more : (before bytes all : List ℕ) → length bytes < 8 → before ++ listing_of bytes ≡ all → before ≡ all
no_more before bytes all h e = sym (append-nil before) ∙ ap (λ l. before ++ l) (sym (no_unit bytes h)) ∙ e
