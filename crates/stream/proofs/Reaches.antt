-- How far a cache serves. Assumes nothing.
use Rattle.std.proofs.Common.{is_some, ◌≡◌, ℕ, ◌+◌, ◌-◌, ◌*◌, ◌^◌, ◌<◌, ◌≤◌, min, Bool, true, false, cond, ltb, refl, ap, ◌∙◌, arith, le-ltb, lt-ltb}
use Rattle.sqv4.specs.Files.{frame_samples_of}
use Rattle.stream.specs.declared.StreamCache.{StreamCache}
use Rattle.stream.specs.Window.{holds_frame, reach_of}
use Rattle.stream.proofs.Founds.{choose, refuse}

module _ (c : StreamCache) (frame : ℕ) where
  abbrev per : ℕ
  per = frame_samples_of c.info.version

  abbrev pub spanned : Bool → ℕ
  spanned b = min (cond b (per + per) per) (c.info.sample_count - frame * per) - 1

  pub reach-past : 2 ^ 35 ≤ frame → reach_of c frame ≡ 0
  unfolding reach_of
  reach-past h = refuse (ltb frame (2 ^ 35)) _ _ (le-ltb frame (2 ^ 35) h)

  pub reach-free : frame < 2 ^ 35 → c.valid ≡ false → reach_of c frame ≡ 0
  unfolding reach_of
  reach-free h v = choose (ltb frame (2 ^ 35)) _ _ (lt-ltb frame (2 ^ 35) h) ∙ refuse c.valid _ _ v

  module _ (h : frame < 2 ^ 35) (v : c.valid ≡ true) where
    pub reach-none : is_some c.variant ≡ false → reach_of c frame ≡ 0
    unfolding reach_of
    reach-none s = choose (ltb frame (2 ^ 35)) _ _ (lt-ltb frame (2 ^ 35) h) ∙ choose c.valid _ _ v ∙ refuse (is_some c.variant) _ _ s

    pub reach-not : is_some c.variant ≡ true → holds_frame c frame ≡ false → reach_of c frame ≡ 0
    unfolding reach_of
    reach-not s f =
        choose (ltb frame (2 ^ 35)) _ _ (lt-ltb frame (2 ^ 35) h) ∙ choose c.valid _ _ v ∙ choose (is_some c.variant) _ _ s
        ∙ refuse (holds_frame c frame) _ _ f

    pub reach-is : is_some c.variant ≡ true → holds_frame c frame ≡ true → (b : Bool) → holds_frame c (frame + 1) ≡ b → reach_of c frame ≡ spanned b
    unfolding reach_of
    reach-is s f b e =
        choose (ltb frame (2 ^ 35)) _ _ (lt-ltb frame (2 ^ 35) h) ∙ choose c.valid _ _ v ∙ choose (is_some c.variant) _ _ s
        ∙ choose (holds_frame c frame) _ _ f
        ∙ ap spanned e

    -- no sample of the fragment
    pub reach-over : is_some c.variant ≡ true → holds_frame c frame ≡ true → c.info.sample_count ≤ frame * per → reach_of c frame ≡ 0
    reach-over s f l = reach-is s f (holds_frame c (frame + 1)) refl ∙ omega arith
