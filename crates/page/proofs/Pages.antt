-- A page by its four parts: a heading, the lines of the links, a heading, the lines of the tunnels.
use Prim.Native.Nat.{ℕ, zero, suc, ◌+◌, ◌*◌, ◌≤◌, ◌<◌}
use mathlib.Core.Path.{◌≡◌, refl, sym, ap, ap₂, ◌∙◌}
use mathlib.Core.List.{List, [], ◌∷◌, ◌++◌, append_assoc, flat_map, map}
use native.Mathlib.Numerals.{add-one}
use native.Mathlib.Omega.{arith}
use lib.ListN.{length, length-append, replicate, replicate-append-replicate}
use Rattle.model.specs.Listed.{listed}
use Rattle.model.specs.Net.{Net, Plan}
use Rattle.model.proofs.Listed.{flat_map-append}
use Rattle.lists.specs.Lists.{network_sizes, network_of, plan_sizes, plan_of}
use Rattle.lines.specs.Puts.{Puts}
use Rattle.fields.specs.Columns.{right_in, in_columns, line, line_size}
use Rattle.fields.proofs.Fields.{Put, put_first, put_next}
use Rattle.page.specs.Page.{link_heading, tunnel_heading, link_fields, tunnel_fields, page_fields, page}
use Rattle.page.specs.Inner.{Accepted, block}
use Rattle.page.proofs.Sizes.{link-length, tunnel-length}
use Rattle.page.proofs.Putting.{block-length}

pub heading-lengths : (length (line link_heading) ≡ line_size) × (length (line tunnel_heading) ≡ line_size)
unfolding link_heading tunnel_heading line in_columns right_in
heading-lengths = (refl, refl)

module _ (N : Net) (P : Plan) (i : ℕ) where
  page-parts : page N P i ≡ ((line link_heading ++ block N.links (link_fields N P i)) ++ line tunnel_heading) ++ block N.tunnels (tunnel_fields N)
  unfolding page page_fields block flat_map
  page-parts =
      flat_map-append line (link_heading ∷ listed N.links (link_fields N P i)) (tunnel_heading ∷ listed N.tunnels (tunnel_fields N))
      ∙ sym (append_assoc (line link_heading ++ flat_map line (listed N.links (link_fields N P i))) (line tunnel_heading) (flat_map line (listed N.tunnels (tunnel_fields N))))

-- how long each line is
abbrev long : List (List ℕ) → ℕ
long fields = length (line fields)

long-append : (xs ys : List (List (List ℕ))) → map long (xs ++ ys) ≡ map long xs ++ map long ys
long-append [] ys = refl
long-append (x ∷ xs) ys = ap (λ (l : List ℕ). long x ∷ l) (long-append xs ys)

long-listed : (n : ℕ) (f : ℕ → List (List ℕ)) → ((k : ℕ) → k < n → long (f k) ≡ line_size) → map long (listed n f) ≡ replicate n line_size
unfolding listed
long-listed zero f h = refl
long-listed (suc n) f h =
    long-append (listed n f) (f n ∷ [])
    ∙ ap₂ (λ (l : List ℕ) (v : ℕ). l ++ (v ∷ [])) (long-listed n f (λ k g. h k (omega arith))) (h n (omega arith))
    ∙ replicate-append-replicate n 1 line_size
    ∙ ap (λ (m : ℕ). replicate m line_size) (add-one n)

module _ (n p : List ℕ) (g : Accepted n p) (i : ℕ) (hi : i < (plan_sizes p).steps) where
  abbrev N : Net
  N = network_of n

  abbrev P : Plan
  P = plan_of p

  abbrev links : ℕ
  links = (network_sizes n).links

  abbrev tunnels : ℕ
  tunnels = (network_sizes n).tunnels

  links-length : length (block links (link_fields N P i)) ≡ line_size * links
  links-length = block-length (link_fields N P i) links (λ l h. link-length n p g i hi l h)

  tunnels-length : length (block tunnels (tunnel_fields N)) ≡ line_size * tunnels
  tunnels-length = block-length (tunnel_fields N) tunnels (λ t h. tunnel-length n g.both.network t h)

  pub page-length : length (page N P i) ≡ line_size * (2 + links + tunnels)
  unfolding network_of
  page-length =
      let a = line link_heading in
      let b = block links (link_fields N P i) in
      let c = line tunnel_heading in
      let d = block tunnels (tunnel_fields N) in
      omega (arith, ap length (page-parts N P i), length-append ((a ++ b) ++ c) d, length-append (a ++ b) c, length-append a b, heading-lengths, links-length, tunnels-length)

  pub page-lines : map long (page_fields N P i) ≡ replicate (2 + links + tunnels) line_size
  unfolding network_of page_fields
  page-lines =
      let more : suc links + suc tunnels ≡ 2 + links + tunnels = omega arith in
      long-append (link_heading ∷ listed links (link_fields N P i)) (tunnel_heading ∷ listed tunnels (tunnel_fields N))
      ∙ ap₂ ◌++◌ (ap₂ ◌∷◌ heading-lengths.0 (long-listed links (link_fields N P i) (λ l h. link-length n p g i hi l h))) (ap₂ ◌∷◌ heading-lengths.1 (long-listed tunnels (tunnel_fields N) (λ t h. tunnel-length n g.both.network t h)))
      ∙ replicate-append-replicate (suc links) (suc tunnels) line_size
      ∙ ap (λ (m : ℕ). replicate m line_size) more

  -- the parts as they are put
  module _ {out out₁ : List ℕ} {a : ℕ} (fits : line_size * (2 + links + tunnels) ≤ length out) (first : Puts (line link_heading) 0 out out₁ a) where
    pub put-heading : Put (line link_heading) line_size 0 out out₁ a
    put-heading = put_first heading-lengths.0 (omega (arith, fits)) first

    module _ {out₂ : List ℕ} {b : ℕ} (second : Puts (block links (link_fields N P i)) a out₁ out₂ b) where
      pub put-links : Put (line link_heading ++ block links (link_fields N P i)) (line_size + line_size * links) 0 out out₂ b
      put-links = put_next links-length (omega (arith, fits)) put-heading second

      module _ {out₃ : List ℕ} {c : ℕ} (third : Puts (line tunnel_heading) b out₂ out₃ c) where
        pub put_second : Put ((line link_heading ++ block links (link_fields N P i)) ++ line tunnel_heading) (line_size + line_size * links + line_size) 0 out out₃ c
        put_second = put_next heading-lengths.1 (omega (arith, fits)) put-links third

        pub put-page : {out₄ : List ℕ} {d : ℕ} → Puts (block tunnels (tunnel_fields N)) c out₃ out₄ d → Puts (page N P i) 0 out out₄ d
        unfolding network_of
        put-page q = rw (page-parts N P i) (put_next tunnels-length (omega (arith, fits)) put_second q).puts
