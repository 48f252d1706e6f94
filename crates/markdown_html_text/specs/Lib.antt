pub mod HtmlLeaves
pub mod HtmlPieces
pub mod Markup
