-- A file that is written stands under its name.
use Rattle.std.proofs.Common.{◌≡◌, ◌∙◌, ◌<◌, ℕ, List, length, Bool, true, false, Option, Some, None, ap, refl, sym, subst, inr, option_map, cond}
use Rattle.std.specs.Prelude.{String, Vec, string_bytes, Err}
use Rattle.std.specs.BTreeMap.{BTreeMap, Updates, get_by_text}
use Rattle.std.specs.String.{string_cmp}
use Rattle.std.specs.Str.{bytes_eq}
use Rattle.std.proofs.lemmas.Map.Text.{btree_map_updates_text}
use Rattle.q_outside.specs.Memory.{bytes_of, Finds, IsNoneWithin, IsWritten}
use Rattle.q_outside.specs.declared.files.FileFault.{FileFault}
use Rattle.q_outside.specs.declared.files.FileFault.TheVariants.{Failed}
use Rattle.q_outside.specs.declared.memory_files.MemoryFiles.{MemoryFiles}

mapped : {X Y : Type 0} (f : X → Y) (b : Bool) (v : X) (rest : Option X) → option_map f (cond b (Some v) rest) ≡ cond b (Some (f v)) (option_map f rest)
mapped f true v rest = refl
mapped f false v rest = refl

pub written : {Y Z : Type 0} (key : String Y) (value : Vec ℕ Z) (old new : BTreeMap (String Y) (Vec ℕ Z)) → Updates string_cmp old new key (Some value)
    → (name bytes : List ℕ) → string_bytes key ≡ name → value.items ≡ bytes → IsWritten old name bytes new
written key value old new updates name bytes e f =
    let under : IsWritten old (string_bytes key) value.items new = λ other.
    ap (option_map (λ v. v.items)) (btree_map_updates_text (string_bytes key) old new (Some value) updates other)
    ∙ mapped (λ v. v.items) (bytes_eq (string_bytes key) other) value (get_by_text old other) in
    subst (λ (n : List ℕ). IsWritten old n bytes new) e (subst (λ (b : List ℕ). IsWritten old (string_bytes key) b new) f under)

-- a read of a file that is not there fails
pub missing : (most : ℕ) (old : MemoryFiles) (name : List ℕ) (fault : FileFault) → fault ≡ Failed → bytes_of old.files name ≡ None
    → Finds most old name (Err fault)
missing most old name fault e f = subst (λ (x : FileFault). Finds most old name (Err x)) (sym e) (inr (subst (IsNoneWithin most) (sym f) tt))

-- and so does a read of one that has more bytes than may be read
pub too_long : (most : ℕ) (old : MemoryFiles) (name bytes : List ℕ) (fault : FileFault) → fault ≡ Failed → bytes_of old.files name ≡ Some bytes
    → most < length bytes → Finds most old name (Err fault)
too_long most old name bytes fault e f long = subst (λ (x : FileFault). Finds most old name (Err x)) (sym e) (inr (subst (IsNoneWithin most) (sym f) long))
