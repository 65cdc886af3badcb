mod Titles
