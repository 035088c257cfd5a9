-- The test of two keys decides whether they are equal.
use Rattle.std.proofs.Common.{◌≡◌, ℕ, Bool, true, nat_eq, Option, Some, None, Decides, refl, ap, sym, ◌∙◌}
use Rattle.std.specs.Cmp.{IsEquivalence, decided, unsigned_Decides}
use Rattle.std.specs.Cmp.Lexicographic.{bytes_decides}
use Rattle.std.specs.Option.{option_eq}
use Rattle.std.proofs.lemmas.Bool.{and_parts, and_from, false≢true}
use Rattle.sel_box.specs.declared.packet.Direction.{Direction}
use Rattle.sel_box.specs.declared.packet.Direction.TheVariants.{Outbound, Inbound}
use Rattle.sel_text.specs.declared.family.Family.{Family}
use Rattle.sel_box.specs.laws.BoxLaws.{equal_from_same, same_family-refl}
use Rattle.sel_text.specs.Family.{same_family}
use Rattle.spd_line.specs.declared.pin.Pins.{Pins}
use Rattle.spd_cache.specs.declared.key.Key.{Key}
use Rattle.spd_cache.specs.Key.{same_direction, same_key, same_pins}

directions_decide : (a b : Direction) → Decides (same_direction a b) (a ≡ b)
directions_decide Outbound Outbound = (λ _. refl, λ _. refl)
directions_decide Inbound Inbound = (λ _. refl, λ _. refl)
directions_decide Outbound Inbound = (λ e. absurd (false≢true e), λ e. cc)
directions_decide Inbound Outbound = (λ e. absurd (false≢true e), λ e. cc)

families_decide : (a b : Family) → Decides (same_family a b) (a ≡ b)
families_decide a b = (equal_from_same a b, λ e. ap (same_family a) (sym e) ∙ same_family-refl a)

options_decide : {A : Type 0} (test : A → A → Bool) → ((x y : A) → Decides (test x y) (x ≡ y)) → (a b : Option A) → Decides (option_eq test a b) (a ≡ b)
options_decide test decides None None = (λ _. refl, λ _. refl)
options_decide test decides None (Some y) = (λ e. absurd (false≢true e), λ e. cc)
options_decide test decides (Some x) None = (λ e. absurd (false≢true e), λ e. cc)
options_decide test decides (Some x) (Some y) = (λ e. ap Some ((decides x y).0 e), λ e. let same : x ≡ y = cc in (decides x y).1 same)

numbers_decide : (a b : Option ℕ) → Decides (option_eq nat_eq a b) (a ≡ b)
numbers_decide = options_decide nat_eq unsigned_Decides

pins_decide : (a b : Pins) → Decides (same_pins a b) (a ≡ b)
pins_decide a b = (equal, tested)
  where
    equal : same_pins a b ≡ true → a ≡ b
    equal e =
        let p = and_parts _ _ e in
        let q = and_parts _ _ p.1 in
        let r = and_parts _ _ q.1 in
        let s = and_parts _ _ r.1 in
        let t = and_parts _ _ s.1 in
        λ i. record {
          family = (options_decide same_family families_decide a.family b.family).0 p.0 i;
          local = (numbers_decide a.local b.local).0 q.0 i;
          remote = (numbers_decide a.remote b.remote).0 r.0 i;
          protocol = (numbers_decide a.protocol b.protocol).0 s.0 i;
          local_field = (numbers_decide a.local_field b.local_field).0 t.0 i;
          remote_field = (numbers_decide a.remote_field b.remote_field).0 t.1 i;
        }

    tested : a ≡ b → same_pins a b ≡ true
    tested e =
        and_from _ _ ((options_decide same_family families_decide a.family b.family).1 (ap (λ (k : Pins). k.family) e))
        (and_from _ _ ((numbers_decide a.local b.local).1 (ap (λ (k : Pins). k.local) e))
        (and_from _ _ ((numbers_decide a.remote b.remote).1 (ap (λ (k : Pins). k.remote) e))
        (and_from _ _ ((numbers_decide a.protocol b.protocol).1 (ap (λ (k : Pins). k.protocol) e))
        (and_from _ _ ((numbers_decide a.local_field b.local_field).1 (ap (λ (k : Pins). k.local_field) e))
        ((numbers_decide a.remote_field b.remote_field).1 (ap (λ (k : Pins). k.remote_field) e))))))

pub key_decides : (a b : Key) → Decides (same_key a b) (a ≡ b)
key_decides a b = (equal, tested)
  where
    equal : same_key a b ≡ true → a ≡ b
    equal e =
        let p = and_parts _ _ e in
        let q = and_parts _ _ p.1 in
        λ i. record {
          direction = (directions_decide a.direction b.direction).0 p.0 i;
          name = (bytes_decides a.name b.name).0 q.0 i;
          pins = (pins_decide a.pins b.pins).0 q.1 i;
        }

    tested : a ≡ b → same_key a b ≡ true
    tested e =
        and_from _ _ ((directions_decide a.direction b.direction).1 (ap (λ (k : Key). k.direction) e))
        (and_from _ _ ((bytes_decides a.name b.name).1 (ap (λ (k : Key). k.name) e))
        ((pins_decide a.pins b.pins).1 (ap (λ (k : Key). k.pins) e)))

-- So it compares as an equality does.
pub key_equivalence : IsEquivalence same_key
key_equivalence = decided same_key key_decides
